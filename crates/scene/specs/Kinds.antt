-- The kinds of record and their bytes.
use Rattle.std.specs.Prelude.{ℕ, cond, Result, Ok, Err, eqb}
use Rattle.scene.specs.Format.{region_kind, statement_kind, end_kind}
use Rattle.scene.specs.declared.Refusal.{Refusal}
use Rattle.scene.specs.declared.Refusal.TheVariants.{UnknownKind}
use Rattle.scene.specs.declared.format.Kind.{Kind}
use Rattle.scene.specs.declared.format.Kind.TheVariants.{Region, Statement, End}

-- the byte that stands for a kind
abbrev pub byte_of : Kind → ℕ
byte_of Region = region_kind
byte_of Statement = statement_kind
byte_of End = end_kind

-- the kind that a byte stands for, if it stands for one
abbrev pub kind_of : ℕ → Result Kind Refusal
kind_of byte =
    cond (eqb byte region_kind) (Ok Region) (cond (eqb byte statement_kind) (Ok Statement) (cond (eqb byte end_kind) (Ok End) (Err UnknownKind)))
