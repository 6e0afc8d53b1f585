-- Two orders of the same calls and ticks at a node, with switchovers anywhere in each, and what is equal in their runs (demand 3, second
-- half; document 01, "Of the two orders .."; document 02, W-201).
use Rattle.std.specs.Prelude.{ℕ, zero, suc, ◌<◌, ◌≡◌, Bool, false, ◌&&◌, List, [], ◌∷◌, eqb, length}
use Rattle.std.proofs.Math.Option.{some}
use Rattle.std.proofs.Math.ListN.{get_elem?}
use Rattle.refusal.specs.Answer.{refused}
use Rattle.records.specs.declared.Identity.{Identity}
use Rattle.records.specs.declared.Record.{Record}
use Rattle.records.specs.Slots.{Slots, identity_of, same, empty, count}
use Rattle.records.specs.Node.{Node, Event, tick, call, switchover, Result, told, replied, taken_over, run, final}

-- the ticks among the first i events
abbrev pub ticks : {C : Type 0} → ℕ → List (Event C) → ℕ
ticks zero es = 0
ticks (suc i) [] = 0
ticks (suc i) (tick ∷ es) = suc (ticks i es)
ticks (suc i) (call c ∷ es) = ticks i es
ticks (suc i) (switchover ∷ es) = ticks i es

-- "the count that each tick tells, first with first and so on"
abbrev pub tick_counts : {R : Type 0} → List (Result R) → List ℕ
tick_counts [] = []
tick_counts (told n ∷ rs) = n ∷ tick_counts rs
tick_counts (replied r ∷ rs) = tick_counts rs
tick_counts (taken_over ∷ rs) = tick_counts rs

-- "Of the two orders one is the other's calls and ticks rearranged": `to` and `from` say where each call of one stands in the other.
-- "two calls of one identity keep their order, and every call has as many ticks before it in both". Switchovers stand in each of the
-- two wherever they like.
pub record Reordered (N : Node) (es fs : List (Event N.Call)) : Type 0 where
  pub to : ℕ → ℕ
  pub from : ℕ → ℕ
  pub there : (i : ℕ) (c : N.Call) → get_elem? es i ≡ some (call c) → get_elem? fs (to i) ≡ some (call c)
  pub back : (j : ℕ) (c : N.Call) → get_elem? fs j ≡ some (call c) → get_elem? es (from j) ≡ some (call c)
  pub from-to : (i : ℕ) (c : N.Call) → get_elem? es i ≡ some (call c) → from (to i) ≡ i
  pub to-from : (j : ℕ) (c : N.Call) → get_elem? fs j ≡ some (call c) → to (from j) ≡ j
  pub same_ticks : ticks (length es) es ≡ ticks (length fs) fs
  pub between : (i : ℕ) (c : N.Call) → get_elem? es i ≡ some (call c) → ticks i es ≡ ticks (to i) fs
  pub in_order :
      (i j : ℕ) (c d : N.Call) (q : Identity)
      → get_elem? es i ≡ some (call c)
      → get_elem? es j ≡ some (call d)
      → N.identity c ≡ some q
      → N.identity d ≡ some q
      → i < j
      → to i < to j

-- "Want of a slot is refusal 14": no call of the run is refused so
abbrev pub NoWant : (N : Node) → Slots → List (Event N.Call) → Type 0
NoWant N t es = (i : ℕ) (r : N.Reply) → get_elem? (run N t es) i ≡ some (replied r) → N.answer r ≡ refused 14 → ⊥

-- the two slots hold the same
unfoldable pub same_record : Record → Record → Bool
same_record r s = eqb r.wait s.wait && (eqb r.residence s.residence && same (identity_of r) (identity_of s))

-- "Compared are each call's answer, its message and output afterwards, the count that each tick tells .., and the final tables:
-- each record stands in both equally often."
pub record Alike (N : Node) (t : Slots) (es fs : List (Event N.Call)) (to : ℕ → ℕ) : Type 0 where
  pub replies : (i : ℕ) (c : N.Call) → get_elem? es i ≡ some (call c) → get_elem? (run N t es) i ≡ get_elem? (run N t fs) (to i)
  pub same_tick_counts : tick_counts (run N t es) ≡ tick_counts (run N t fs)
  pub records : (r : Record) → empty r ≡ false → count (same_record r) (final N t es) ≡ count (same_record r) (final N t fs)

-- the theorem, for any node
abbrev pub OrderFree : Node → Type 0
OrderFree N =
    (t : Slots) (es fs : List (Event N.Call)) (R : Reordered N es fs)
    → NoWant N t es
    → NoWant N t fs
    → Alike N t es fs R.to
