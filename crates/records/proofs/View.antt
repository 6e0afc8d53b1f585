-- The view of an identity: its records in a table, in slot order. What each operation does to it; and two tables that have equal views
-- of every identity have as many records that pass a test.
-- Assumes nothing.
use Prim.Native.Nat.{ℕ, suc, ◌<◌}
use mathlib.Core.Path.{◌≡◌, refl, sym, ◌∙◌}
use mathlib.Core.Bool.{Bool, true, false, cond, not, ◌&&◌}
use mathlib.Core.List.{[], ◌∷◌, tail, head?, nil≢cons, cons≢nil, head-eq_of_cons-eq}
use mathlib.Core.Option.{none, some-ne-none}
use native.Mathlib.Omega.{arith}
use lib.ListN.{length, get_elem?, set}
use Rattle.records.specs.declared.Identity.{Identity}
use Rattle.records.specs.declared.Record.{Record}
use Rattle.records.specs.Slots.{Slots, identity_of, empty, records_of, holds, zeros, lowest, find, fresh, add_to, remove_from, aged, ticked, count}
use Rattle.records.proofs.Holding.{decide, holds-zeros, holds-empty, holds_self, holds_other, holds-aged}

abbrev pub view : Identity → Slots → Slots
view q [] = []
view q (s ∷ t) = cond (holds q s) (s ∷ view q t) (view q t)

-- it is a matter of the records alone
pub view_records : (q : Identity) (t : Slots) → view q (records_of t) ≡ view q t
view_records q [] = refl
view_records q (s ∷ t) = go (empty s) refl (view_records q t)
  where
    go : (b : Bool) → empty s ≡ b → view q (records_of t) ≡ view q t → view q (cond b (records_of t) (s ∷ records_of t)) ≡ view q (s ∷ t)
    go true e h = rw (holds-empty q s e) h
    go false e h = rw h

pub find-view : (q : Identity) (t : Slots) → find q t ≡ head? (view q t)
find-view q [] = refl
find-view q (s ∷ t) = go (holds q s) (find-view q t)
  where
    go : (b : Bool) → find q t ≡ head? (view q t) → get_elem? (s ∷ t) (cond b 0 (suc (lowest (holds q) t))) ≡ head? (cond b (s ∷ view q t) (view q t))
    go true h = refl
    go false h = h

pub no_view : (q : Identity) (t : Slots) → find q t ≡ none → view q t ≡ []
no_view q t e = go (view q t) (sym (find-view q t) ∙ e)
  where
    go : (v : Slots) → head? v ≡ none → v ≡ []
    go [] h = refl
    go (s ∷ v) h = absurd (some-ne-none s h)

-- collecting
pub view_remove_own : (q : Identity) (t : Slots) → view q (remove_from q t) ≡ tail (view q t)
view_remove_own q [] = refl
view_remove_own q (s ∷ t) = go (holds q s) refl (view_remove_own q t)
  where
    go :
        (b : Bool)
        → holds q s ≡ b
        → view q (remove_from q t) ≡ tail (view q t)
        → view q (set (s ∷ t) (cond b 0 (suc (lowest (holds q) t))) zeros) ≡ tail (cond b (s ∷ view q t) (view q t))
    go true e h = rw (holds-zeros q)
    go false e h = rw e h

pub view_remove_other : (p q : Identity) (t : Slots) → (p ≡ q → ⊥) → view p (remove_from q t) ≡ view p t
view_remove_other p q [] ne = refl
view_remove_other p q (s ∷ t) ne = go (holds q s) refl (view_remove_other p q t ne)
  where
    go :
        (b : Bool)
        → holds q s ≡ b
        → view p (remove_from q t) ≡ view p t
        → view p (set (s ∷ t) (cond b 0 (suc (lowest (holds q) t))) zeros) ≡ view p (s ∷ t)
    go true e h = rw (holds-zeros p, holds_other p q s ne e)
    go false e h = rw h

-- a tick
abbrev pub view_aged : Slots → Slots
view_aged [] = []
view_aged (s ∷ v) = cond (not (empty (aged s))) (aged s ∷ view_aged v) (view_aged v)

pub view-ticked : (q : Identity) (t : Slots) → view q (ticked t) ≡ view_aged (view q t)
view-ticked q [] = refl
view-ticked q (s ∷ t) = rw (holds-aged q s) (go (holds q s) (view-ticked q t))
  where
    go :
        (b : Bool)
        → view q (ticked t) ≡ view_aged (view q t)
        → cond (b && not (empty (aged s))) (aged s ∷ view q (ticked t)) (view q (ticked t)) ≡ view_aged (cond b (s ∷ view q t) (view q t))
    go true h = rw h
    go false h = h

-- adding
pub view_add_own :
    (q : Identity) (u : ℕ) (t : Slots) → lowest empty t < length t → view q t ≡ [] → view q (add_to q u t) ≡ fresh q u ∷ []
view_add_own q u [] l v = absurd (omega arith)
view_add_own q u (s ∷ t) l v = go (empty s) (holds q s) refl l v (view_add_own q u t)
  where
    go :
        (b c : Bool)
        → holds q s ≡ c
        → cond b 0 (suc (lowest empty t)) < suc (length t)
        → cond c (s ∷ view q t) (view q t) ≡ []
        → (lowest empty t < length t → view q t ≡ [] → view q (add_to q u t) ≡ fresh q u ∷ [])
        → view q (set (s ∷ t) (cond b 0 (suc (lowest empty t))) (fresh q u)) ≡ fresh q u ∷ []
    go b true e k w h = absurd (cons≢nil w)
    go true false e k w h = rw (holds_self (fresh q u) refl, w)
    go false false e k w h = rw e (h (omega arith) w)

pub view_add_other : (p q : Identity) (u : ℕ) (t : Slots) → (p ≡ q → ⊥) → view p (add_to q u t) ≡ view p t
view_add_other p q u [] ne = refl
view_add_other p q u (s ∷ t) ne = go (empty s) refl (view_add_other p q u t ne)
  where
    go :
        (b : Bool)
        → empty s ≡ b
        → view p (add_to q u t) ≡ view p t
        → view p (set (s ∷ t) (cond b 0 (suc (lowest empty t))) (fresh q u)) ≡ view p (s ∷ t)
    go true e h = rw (holds_other p q (fresh q u) ne (holds_self (fresh q u) refl), holds-empty p s e)
    go false e h = rw h

-- counting, by a test that no empty slot passes
abbrev more : Bool → ℕ → ℕ
more b n = cond b (suc n) n

more_swap : (a b : Bool) (n : ℕ) → more a (more b n) ≡ more b (more a n)
more_swap true true n = refl
more_swap true false n = refl
more_swap false b n = refl

module _ (p : Record → Bool) (full : (s : Record) → empty s ≡ true → p s ≡ false) where
  count_remove :
      (q : Identity) (t : Slots) (s : Record) (v : Slots) → view q t ≡ s ∷ v → count p t ≡ more (p s) (count p (remove_from q t))
  count_remove q [] s v e = absurd (nil≢cons e)
  count_remove q (x ∷ t) s v e = go (holds q x) e (count_remove q t s v)
    where
      go :
          (b : Bool)
          → cond b (x ∷ view q t) (view q t) ≡ s ∷ v
          → (view q t ≡ s ∷ v → count p t ≡ more (p s) (count p (remove_from q t)))
          → more (p x) (count p t) ≡ more (p s) (count p (set (x ∷ t) (cond b 0 (suc (lowest (holds q) t))) zeros))
      go true e h = rw (head-eq_of_cons-eq e, full zeros refl)
      go false e h = rw (h e) (more_swap (p x) (p s) (count p (remove_from q t)))

  no_views : (t : Slots) → ((q : Identity) → view q t ≡ []) → count p t ≡ 0
  no_views [] h = refl
  no_views (s ∷ t) h = go (empty s) refl (no_views t)
    where
      go : (b : Bool) → empty s ≡ b → (((q : Identity) → view q t ≡ []) → count p t ≡ 0) → more (p s) (count p t) ≡ 0
      go false e k = absurd (cons≢nil (rw (holds_self s e) at (h (identity_of s))))
      go true e k = rw (full s e) (k (λ q. rw (holds-empty q s e) at (h q)))

  pub equal_views : (t u : Slots) → ((q : Identity) → view q t ≡ view q u) → count p t ≡ count p u
  equal_views [] u h = sym (no_views u (λ q. sym (h q)))
  equal_views (s ∷ t) u h = go (empty s) refl (λ w. equal_views t w)
    where
      go :
          (b : Bool)
          → empty s ≡ b
          → ((w : Slots) → ((q : Identity) → view q t ≡ view q w) → count p t ≡ count p w)
          → more (p s) (count p t) ≡ count p u
      go true e k = rw (full s e) (k u (λ q. rw (holds-empty q s e) at (h q)))
      go false e k =
          rw (k (remove_from (identity_of s) u) (λ q. other q (decide q (identity_of s))))
          (sym (count_remove (identity_of s) u s (view (identity_of s) t) (sym own)))
        where
          own : s ∷ view (identity_of s) t ≡ view (identity_of s) u
          own = rw (holds_self s e) at (h (identity_of s))

          other : (q : Identity) → Dec (q ≡ identity_of s) → view q t ≡ view q (remove_from (identity_of s) u)
          other q (yes f) = rw (f, view_remove_own (identity_of s) u, ← own)
          other q (no f) = rw (view_remove_other q (identity_of s) u f, ← h q, holds_other q (identity_of s) s f (holds_self s e))
