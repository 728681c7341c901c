-- The scene file's format: limit, kinds, lengths and bytes of the records.
use Rattle.std.specs.Prelude.{ℕ, cond, List, [], ◌∷◌, ◌++◌, eqb}
use Rattle.lists.specs.BigEndian.{big_endian}

-- the most bytes that a scene may have
abbrev pub most_bytes : ℕ
most_bytes = 32768

-- the kinds of record
abbrev pub region_kind : ℕ
region_kind = 1

abbrev pub statement_kind : ℕ
statement_kind = 2

abbrev pub end_kind : ℕ
end_kind = 3

-- how many bytes a record has, its kind's byte included; of an unknown kind that byte alone counts
unfoldable pub length_of : ℕ → ℕ
length_of kind = cond (eqb kind region_kind) 5 (cond (eqb kind statement_kind) 10 1)

-- the bytes of a region record
abbrev pub region_record : ℕ → List ℕ
region_record name = region_kind ∷ big_endian name

-- the bytes of a statement record
abbrev pub statement_record : ℕ → ℕ → ℕ → List ℕ
statement_record a b set = statement_kind ∷ (big_endian a ++ (big_endian b ++ (set ∷ [])))
