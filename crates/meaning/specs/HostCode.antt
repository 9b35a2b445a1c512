-- What a host is handed and what it answers, from the code's types to the meaning's.
use Rattle.std.specs.Prelude.{ℕ, List, [], map, take, drop, Option}
use Rattle.std.specs.Option.{option_map}
use Rattle.std.specs.declared.convert.Infallible.{Infallible}
use Rattle.vocabulary.specs.declared.values.Span.{Span}
use Rattle.vocabulary.specs.declared.values.Text.{Text}
use Rattle.vocabulary.specs.declared.values.Text.TheVariants.{Arena, Row}
use Rattle.vocabulary.specs.declared.values.Value.{Value as Placed}
use Rattle.vocabulary.specs.declared.values.Value.TheVariants as placed
use Rattle.meaning.specs.declared.answers.Reply.{Reply as CodeReply}
use Rattle.meaning.specs.declared.answers.Reply.TheVariants as replied
use Rattle.meaning.specs.declared.answers.RuleAnswer.{RuleAnswer}
use Rattle.meaning.specs.declared.answers.RuleAnswer.TheVariants as answered
use Rattle.meaning.specs.Values.{Value, null, bool, signed, unsigned, text, ext}
use Rattle.meaning.specs.Hosts.{Constant, Reply, argument, plain, fails, Answer, nothing, child, constant, other}

-- the bytes of a part, as far as they go
abbrev pub part : List ℕ → Span → List ℕ
part bs s = take s.len (drop s.start bs)

-- the bytes of a text, in the arena's text or the row's
abbrev pub bytes_of : List ℕ → List ℕ → Text → List ℕ
bytes_of arena row (Arena s) = part arena s
bytes_of arena row (Row s) = part row s

-- the value that one by its place stands for, over the arena's text and the row's
abbrev pub read : List ℕ → List ℕ → Placed Text → Value
read arena row placed.Null = null
read arena row (placed.Bool b) = bool b
read arena row (placed.I64 z) = signed z
read arena row (placed.U64 n) = unsigned n
read arena row (placed.Utf8 t) = text (bytes_of arena row t)
read arena row (placed.Extension e z) = ext e z

-- the values that arguments stand for
abbrev pub read_all : List ℕ → List ℕ → List (Placed Text) → List Value
read_all arena row vs = map (read arena row) vs

-- the values of those arguments that are literals, whose text lies in the arena
abbrev pub read_literals : List ℕ → List (Option (Placed Text)) → List (Option Value)
read_literals arena ls = map (option_map (read arena [])) ls

-- the constant that a host made: a value that has no text
abbrev pub constant_of : Placed Infallible → Constant
constant_of placed.Null = Constant.null
constant_of (placed.Bool b) = Constant.bool b
constant_of (placed.I64 z) = Constant.signed z
constant_of (placed.U64 n) = Constant.unsigned n
constant_of (placed.Utf8 x) = elim x [ ]
constant_of (placed.Extension e z) = Constant.ext e z

-- what a host replied
abbrev pub reply_of : CodeReply → Reply
reply_of (replied.Argument i) = argument i
reply_of (replied.Plain k) = plain (constant_of k)
reply_of (replied.Fails c) = fails c

-- what a rule answered
abbrev pub answer_of : RuleAnswer → Answer
answer_of answered.Nothing = nothing
answer_of (answered.Child i) = child i
answer_of (answered.Constant k) = constant (constant_of k)
answer_of (answered.Other c ps) = other c ps
