-- A list that is not refused: it has at most 1,024 octets, an entry stands at its front, and the rest is sound.
-- Assumes nothing.
use Prim.Native.Nat.{ℕ, zero, suc, ◌*◌, ◌≤◌}
use mathlib.Core.Path.{◌≡◌, refl, sym, ap, ◌∙◌}
use mathlib.Core.Bool.{Bool, true, false, cond, not}
use mathlib.Core.List.{List, [], ◌∷◌}
use native.Mathlib.Omega.{arith}
use borrow.Author.Tests.{ltb-false}
use lib.Dec.{eqb, ltb}
use lib.ListN.{length, take, drop}
use Rattle.refusal.specs.Answer.{Answer, value, refused, refuse}
use Rattle.refusal.proofs.Answers.{not_both}
use Rattle.rtm_set.specs.Entries.{front_size, is_entry, entries_within, entries_of, entries_by, entries_in, Sound}
use Rattle.rtm_set.proofs.Rest.{Front, before, entries_bad, entries_rest}
use Rattle.rtm_set.proofs.Counts.{counted, count_few}

-- 19 or 20: nothing else refuses a list
abbrev Refused : Answer (List (List ℕ)) → Type 0
Refused (value es) = Unit {0}
Refused (refused n) = n ≤ 20

refused_within : (k : ℕ) (s : List ℕ) → Refused (entries_within k s)
refused_within zero s = tt
refused_within (suc k) s = go (eqb (length s) 0) (is_entry s) (entries_within k (drop (front_size s) s)) (refused_within k (drop (front_size s) s))
  where
    go : (none is : Bool) (a : Answer (List (List ℕ))) → Refused a → Refused (cond none (value []) (refuse 20 (not is) (before (take (front_size s) s) a)))
    go true is a h = tt
    go false false a h = omega arith
    go false true (value es) h = tt
    go false true (refused n) h = h

pub refused_number : (s : List ℕ) (n : ℕ) → entries_of s ≡ refused n → n ≤ 20
refused_number s n e = go (ltb 1024 (length s)) (entries_within (length s) s) (refused_within (length s) s) e
  where
    go : (long : Bool) (a : Answer (List (List ℕ))) → Refused a → refuse 19 long a ≡ refused n → n ≤ 20
    go true a h q = let z : 19 ≡ n = cc in omega arith
    go false (value es) h q = absurd (not_both (sym q))
    go false (refused m) h q = let z : m ≡ n = cc in omega arith

module _ (s : List ℕ) (sound : Sound s) where
  not_refused : (n : ℕ) → entries_of s ≡ refused n → ⊥
  not_refused n e = not_both (sym e ∙ sym sound)

  pub short : length s ≤ 1024
  short = go (ltb 1024 (length s)) refl
    where
      go : (long : Bool) → ltb 1024 (length s) ≡ long → length s ≤ 1024
      go true e = absurd (not_refused 19 (rw e))
      go false e = ltb-false 1024 (length s) e

  -- eight octets or more for each entry
  pub entries_few : 8 * length (entries_in s) ≤ length s
  entries_few = count_few s (length (entries_in s)) (ap counted (sym sound))

  pub entry_first : (length s ≡ 0 → ⊥) → is_entry s ≡ true
  entry_first some = go (is_entry s) refl
    where
      go : (b : Bool) → is_entry s ≡ b → b ≡ true
      go true is = refl
      go false is = absurd (not_refused 20 (entries_bad s short some is))

  module _ (n : ℕ) (f : Front s n) where
    pub rest_sound : Sound (drop n s)
    rest_sound = go (entries_of (drop n s)) (entries_rest s n f short)
      where
        go : (a : Answer (List (List ℕ))) → entries_of s ≡ before (take n s) a → value (entries_by a) ≡ a
        go (value es) e = refl
        go (refused m) e = absurd (not_refused m e)

    -- "An entry is read, then the rest of the list in the same way"
    pub first_rest : entries_in s ≡ take n s ∷ entries_in (drop n s)
    first_rest = ap entries_by (entries_rest s n f short ∙ ap (before (take n s)) (sym rest_sound))
