-- What a residence says, in document 01's numbers.
use Rattle.std.specs.Prelude.{ℕ, List, ◌≡◌, leb, Result, Ok, Err, codes}
use Rattle.refusal.specs.Answer.{Answer, value, refused, refuse, and_then}
use Rattle.refusal.specs.Refusal.{number_of}
use Rattle.refusal.specs.declared.Refusal.{Refusal}
use Rattle.residence.specs.declared.ResidenceError.{ResidenceError}
use Rattle.residence.specs.declared.ResidenceError.TheVariants.{InvalidStamp, TooLong}

abbrev pub Residence : Type 0
Residence = Result ℕ ResidenceError

-- the stay in pad units, or refusal 9 or 10
abbrev pub residence_answer : Residence → Answer ℕ
residence_answer (Ok u) = value u
residence_answer (Err InvalidStamp) = refused 9
residence_answer (Err TooLong) = refused 10

-- why there is none, in words
abbrev pub words_of : ResidenceError → List ℕ
words_of InvalidStamp = codes "a stamp is no time"
words_of TooLong = codes "the residence is too long"

-- the refusal that stands for the error has its number
abbrev pub RefusedAs : ResidenceError → Refusal → Type 0
RefusedAs e r = residence_answer (Err e) ≡ refused (number_of r)

-- a residence as a node takes it: units of 262,144,000,000,000 (4 seconds) or more come from no stamps, and are 10 too
abbrev pub limit : ℕ
limit = 262144000000000

abbrev pub accepted_of : Residence → Answer ℕ
accepted_of r = and_then (residence_answer r) (λ u. refuse 10 (leb limit u) (value u))

-- The promise of a residence that comes from stamps, which is all that a node sees of them ("the node crate sees only the stay's promise"):
-- a node accepts just what it says.
abbrev pub Promise : Residence → Type 0
Promise r = accepted_of r ≡ residence_answer r
