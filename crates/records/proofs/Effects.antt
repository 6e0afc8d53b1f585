-- What one request or tick does to the view of an identity: a request for its own, where it is not told 14, depends on that view alone,
-- and one for another identity leaves it.
-- Assumes nothing.
use Prim.Native.Nat.{ℕ}
use mathlib.Core.Path.{◌≡◌, refl, sym, ap, ◌∙◌}
use mathlib.Core.Bool.{Bool, true, false}
use mathlib.Core.List.{[], ◌∷◌, tail, head?}
use mathlib.Core.Option.{Option, none, some}
use borrow.Author.Tests.{ltb-true}
use lib.ListN.{length}
use Rattle.refusal.specs.Answer.{Answer, value, refused}
use Rattle.records.specs.declared.Identity.{Identity}
use Rattle.records.specs.declared.Record.{Record}
use Rattle.records.specs.Slots.{Slots, empty, lowest, find, fresh, vacant, add_answer, ticked}
use Rattle.records.specs.Node.{Request, nothing, add, collect, table_answer, add_leaves, collect_leaves, table_after, asked}
use Rattle.records.proofs.View.{view, find-view, view_remove_own, view_remove_other, view-ticked, view_add_own, view_add_other}

-- two tables with the same records of the identity asked for answer alike, where neither wants a slot
pub answer_alike :
    (a : Request) (t u : Slots)
    → ((q : Identity) → asked a ≡ some q → view q t ≡ view q u)
    → (table_answer a t ≡ refused 14 → ⊥)
    → (table_answer a u ≡ refused 14 → ⊥)
    → table_answer a t ≡ table_answer a u
answer_alike nothing t u h x y = refl
answer_alike (add q w) t u h x y = rw e (go (find q u) (vacant t) (vacant u) (rw e at x) y)
  where
    e : find q t ≡ find q u
    e = rw (find-view q t, find-view q u, h q refl)

    go : (o : Option Record) (b d : Bool) → (add_answer o b ≡ refused 14 → ⊥) → (add_answer o d ≡ refused 14 → ⊥) → add_answer o b ≡ add_answer o d
    go (some r) b d f g = refl
    go none true true f g = refl
    go none true false f g = absurd (g refl)
    go none false d f g = absurd (f refl)
answer_alike (collect q) t u h x y = rw (find-view q t, find-view q u, h q refl)

-- a request for the identity itself
abbrev pub view_add : Record → Slots → Slots
view_add n [] = n ∷ []
view_add n (r ∷ v) = r ∷ v

pub view_add_lem :
    (q : Identity) (u : ℕ) (t : Slots)
    → (table_answer (add q u) t ≡ refused 14 → ⊥)
    → view q (table_after (add q u) t) ≡ view_add (fresh q u) (view q t)
view_add_lem q u t x = go (view q t) refl
  where
    roomy : (b : Bool) → vacant t ≡ b → find q t ≡ none → view q t ≡ [] → view q (add_leaves q u t (add_answer none b)) ≡ fresh q u ∷ []
    roomy true f e v = view_add_own q u t (ltb-true (lowest empty t) (length t) f) v
    roomy false f e v = absurd (x (rw (e, f)))

    go : (v : Slots) → view q t ≡ v → view q (table_after (add q u) t) ≡ view_add (fresh q u) v
    go [] e =
        let f : find q t ≡ none = find-view q t ∙ ap head? e in
        rw f (roomy (vacant t) refl f e)
    go (r ∷ v) e = rw (find-view q t ∙ ap head? e) e

view-collect : (q : Identity) (t : Slots) → view q (table_after (collect q) t) ≡ tail (view q t)
view-collect q t = go (view q t) refl
  where
    go : (v : Slots) → view q t ≡ v → view q (table_after (collect q) t) ≡ tail v
    go [] e = rw (find-view q t ∙ ap head? e) e
    go (r ∷ v) e = rw (find-view q t ∙ ap head? e) (view_remove_own q t ∙ ap tail e)

-- a request for another identity
pub request_other :
    (a : Request) (q : Identity) (t : Slots) → (asked a ≡ some q → ⊥) → view q (table_after a t) ≡ view q t
request_other nothing q t h = refl
request_other (add p u) q t h = go (table_answer (add p u) t)
  where
    go : (a : Answer ℕ) → view q (add_leaves p u t a) ≡ view q t
    go (value n) = view_add_other q p u t (λ e. h (ap some (sym e)))
    go (refused n) = refl
request_other (collect p) q t h = go (table_answer (collect p) t)
  where
    go : (a : Answer ℕ) → view q (collect_leaves p t a) ≡ view q t
    go (value u) = view_remove_other q p t (λ e. h (ap some (sym e)))
    go (refused n) = refl

pub after_alike :
    (a : Request) (q : Identity) (t u : Slots)
    → ((p : Identity) → asked a ≡ some p → q ≡ p)
    → view q t ≡ view q u
    → (table_answer a t ≡ refused 14 → ⊥)
    → (table_answer a u ≡ refused 14 → ⊥)
    → view q (table_after a t) ≡ view q (table_after a u)
after_alike nothing q t u e h x y = h
after_alike (add p w) q t u e h x y = rw (e p refl) (rw (view_add_lem p w t x, view_add_lem p w u y, rw (e p refl) at h))
after_alike (collect p) q t u e h x y = rw (e p refl) (rw (view-collect p t, view-collect p u, rw (e p refl) at h))

pub tick_alike : (q : Identity) (t u : Slots) → view q t ≡ view q u → view q (ticked t) ≡ view q (ticked u)
tick_alike q t u e = rw (view-ticked q t, view-ticked q u, e)
