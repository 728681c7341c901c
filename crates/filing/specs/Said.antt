-- What was said: the regions declared, by place, and the statements made.
use Rattle.std.specs.Prelude.{ℕ, List, [], ◌∷◌, ◌++◌, length}
use Rattle.region.specs.declared.Place.{Place}

-- a statement: the region at place `from` towards the region at place `to` is one of the set
pub record Statement : Type 0 where
  pub from : ℕ
  pub to : ℕ
  pub set : ℕ

-- the identifiers declared so far, by place, and the statements made so far, the latest first
pub record Said : Type 0 where
  pub identifiers : List ℕ
  pub statements : List Statement

-- how many regions are declared
abbrev pub regions : Said → ℕ
regions said = length said.identifiers

-- regions are declared, and no statement is made
abbrev pub naming : List ℕ → Said
naming identifiers = record { identifiers = identifiers; statements = [] }

-- nothing is said yet
abbrev pub silent : Said
silent = naming []

-- what is said after one more region, which takes the next place
abbrev pub declared : Said → ℕ → Said
declared said name = record { identifiers = said.identifiers ++ (name ∷ []); statements = said.statements }

-- the statement from one place to another
abbrev pub statement : Place → Place → ℕ → Statement
statement a b set = record { from = a.0; to = b.0; set = set }

-- what is said after one more statement
abbrev pub stated : Said → Place → Place → ℕ → Said
stated said a b set = record { identifiers = said.identifiers; statements = statement a b set ∷ said.statements }
