-- Big-endian numbers in octets (document 01, The RTM message: "Numbers are big-endian").
use Rattle.std.specs.Prelude.{ℕ, zero, suc, ◌+◌, ◌*◌, ◌/◌, ◌%◌, ◌<◌, Bool, true, false, cond, ◌&&◌, List, [], ◌∷◌, ◌++◌, leb, eqb, ℤ, length, get_or, take, drop}
use Rattle.std.specs.Int.{w64}
use Rattle.std.proofs.Common.{to_z, of_z}

-- each element is an octet, as in every string that the code is handed
abbrev pub Octets : List ℕ → Type 0
Octets s = (i : ℕ) → get_or s i 0 < 256

-- the number in the w octets from place i on; an octet past the end counts as 0
abbrev pub number : ℕ → List ℕ → ℕ → ℕ
number zero s i = 0
number (suc w) s i = number w s i * 256 + get_or s (i + w) 0

-- the last w octets of a number
abbrev pub octets : ℕ → ℕ → List ℕ
octets zero x = []
octets (suc w) x = octets w (x / 256) ++ (x % 256 ∷ [])

-- the signed number whose two's complement stands in the eight octets from place i on, and its octets
abbrev pub signed_number : List ℕ → ℕ → ℤ
signed_number s i = to_z w64 (number 8 s i)

abbrev pub signed_octets : ℤ → List ℕ
signed_octets z = octets 8 (of_z w64 z)

-- the list with vs in it from place i on, where they fit; else as it came
abbrev pub put : List ℕ → ℕ → List ℕ → List ℕ
put s i vs = cond (leb (i + length vs) (length s)) (take i s ++ vs ++ drop (i + length vs) s) s

-- the same octets, in the same number
abbrev pub same : List ℕ → List ℕ → Bool
same [] [] = true
same [] (y ∷ ys) = false
same (x ∷ xs) [] = false
same (x ∷ xs) (y ∷ ys) = eqb x y && same xs ys
