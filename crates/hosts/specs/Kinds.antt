-- Types of functions of one argument.
use Rattle.std.specs.Prelude.{cond, Some, None, Option}
use Rattle.vocabulary.specs.declared.types.DType.{DType}
use Rattle.vocabulary.specs.declared.types.Kind.{Kind}
use Rattle.vocabulary.specs.Types.{same_kind, type_of}

-- of an argument of the kind taken: of the kind given, nullable where the argument is
abbrev pub kind_to_kind : Kind → Kind → DType → Option DType
kind_to_kind taken given t = cond (same_kind t.kind taken) (Some (type_of given t.nullable)) None
