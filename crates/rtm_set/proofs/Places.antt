-- The entry at a place: the count tells whether there is one, and behind the front it is an entry of the rest.
-- Assumes nothing.
use Prim.Native.Nat.{ℕ, zero, suc, ◌-◌, ◌≤◌}
use mathlib.Core.Path.{◌≡◌, refl, sym, ap, ◌∙◌}
use mathlib.Core.List.{List, []}
use native.Mathlib.Omega.{arith}
use lib.Dec.{leb-suc-suc, leb}
use lib.ListN.{length, get_or, take, drop}
use Rattle.refusal.specs.Answer.{Answer, value, refused, refuse, and_then}
use Rattle.refusal.proofs.Answers.{not_both}
use Rattle.rtm_set.specs.Entries.{entries_of, entries_by, Sound, entry_of, part_by}
use Rattle.rtm_set.proofs.Rest.{Front, before, entries_rest}
use Rattle.rtm_set.proofs.Sound.{short}

-- the entry at a place of an answer's entries
abbrev pub at : ℕ → Answer (List (List ℕ)) → Answer (List ℕ)
at k a = and_then a (λ es. refuse 21 (leb (length es) k) (value (get_or es k [])))

-- of a list that has an entry at the place
module _ (s : List ℕ) (k : ℕ) (has : value (part_by (entry_of s k)) ≡ entry_of s k) where
  pub not_refused : (n : ℕ) → entry_of s k ≡ refused n → ⊥
  not_refused n e = not_both (sym e ∙ sym has)

  sound : Sound s
  sound = go (entries_of s) has
    where
      go : (a : Answer (List (List ℕ))) → value (part_by (at k a)) ≡ at k a → value (entries_by a) ≡ a
      go (value es) e = refl
      go (refused m) e = absurd (not_both (sym e))

  pub has_short : length s ≤ 1024
  has_short = short s sound

  module _ (n : ℕ) (f : Front s n) where
    pub entry_later : (k ≡ 0 → ⊥) → entry_of s k ≡ entry_of (drop n s) (k - 1)
    entry_later z = ap (at k) (entries_rest s n f has_short) ∙ go k z (entries_of (drop n s))
      where
        go : (j : ℕ) → (j ≡ 0 → ⊥) → (a : Answer (List (List ℕ))) → at j (before (take n s) a) ≡ at (j - 1) a
        go zero h a = absurd (h refl)
        go (suc j) h (value es) = let e : suc j - 1 ≡ j = omega arith in rw (e, leb-suc-suc (length es) j)
        go (suc j) h (refused m) = refl
