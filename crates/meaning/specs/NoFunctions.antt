-- The host without functions.
use Rattle.std.specs.Prelude.{false, None}
use Rattle.meaning.specs.Hosts.{fails, nothing, Meaning}

-- no code is a function, so that no call binds; a call that is made all the same fails with its code
abbrev pub no_functions : Meaning
no_functions = record {
  has = λ c. false;
  takes = λ c n. false;
  types = λ c ts. None;
  gives = λ c vs. fails c;
  rule = λ c ts ls. nothing;
}
