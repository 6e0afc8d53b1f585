-- A path in octets, as the programs take it: S, the Sync's pad, the Follow_Up's (8 octets each, signed), the number of hops (2), and the
-- hops, each its mode and its residence (8). Numbers are big-endian; an octet past the end counts as 0.
use Rattle.std.specs.Prelude.{ℕ, zero, suc, ◌+◌, ◌*◌, Bool, not, ◌&&◌, List, [], ◌∷◌, leb, eqb, length}
use Rattle.octets.specs.Octets.{number, signed_number}
use Rattle.refusal.specs.Answer.{Answer}
use Rattle.hops.specs.declared.Hop.{Hop}
use Rattle.hops.specs.declared.Start.{Start}
use Rattle.hops.specs.declared.End.{End}
use Rattle.hops.specs.Plan.{start_with, plan_of}

abbrev pub start_in : List ℕ → Start
start_in s = start_with (signed_number s 1) (signed_number s 9) (not (eqb (number 1 s 0) 0))

abbrev pub count_in : List ℕ → ℕ
count_in s = number 2 s 17

-- S is 0 or 1, and nothing follows the last hop
abbrev pub is_path : List ℕ → Bool
is_path s = leb (number 1 s 0) 1 && eqb (length s) (19 + count_in s * 9)

-- the hop from place i on, and n of them one after another
abbrev pub hop_from : List ℕ → ℕ → Hop
hop_from s i = record { mode = number 1 s i; residence = number 8 s (i + 1) }

abbrev pub hops_from : ℕ → List ℕ → ℕ → List Hop
hops_from zero s i = []
hops_from (suc n) s i = hop_from s i ∷ hops_from n s (i + 9)

abbrev pub plan_in : List ℕ → Answer End
plan_in s = plan_of (hops_from (count_in s) s 19) (start_in s)
