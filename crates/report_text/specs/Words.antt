-- The words that begin a report, as bytes.
use Rattle.std.specs.Prelude.{ℕ, List, codes}

-- the word `accepted`
abbrev pub accepted_word : List ℕ
accepted_word = codes "accepted"

-- the word `refused`
abbrev pub refused_word : List ℕ
refused_word = codes "refused"
