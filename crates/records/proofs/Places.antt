-- Places in a list of calls, ticks and switchovers: what stands there, the ticks before it, the table that a run has there, and its result there.
-- Assumes nothing.
use Prim.Native.Nat.{ℕ, zero, suc, ◌<◌, ◌≤◌}
use mathlib.Core.Path.{◌≡◌, refl, sym, ap, ◌∙◌}
use mathlib.Core.List.{List, [], ◌∷◌}
use mathlib.Core.Option.{Option, none, some, none-ne-some}
use native.Mathlib.Omega.{arith}
use native.Mathlib.Decide.{dec_le}
use lib.ListN.{length, get_elem?, take}
use Rattle.records.specs.Slots.{Slots, emptied}
use Rattle.records.specs.Node.{Node, Event, tick, call, switchover, step, result, run, final}
use Rattle.records.specs.Order.{ticks, tick_counts}

module _ {A : Type 0} where
  pub below_length : (es : List A) (i : ℕ) (e : A) → get_elem? es i ≡ some e → i < length es
  below_length [] i e h = absurd (none-ne-some e h)
  below_length (x ∷ es) zero e h = omega arith
  below_length (x ∷ es) (suc i) e h = omega (arith, below_length es i e h)

  -- two lists of one length are equal if they agree at each place
  pub same_places : (xs ys : List A) → length xs ≡ length ys → ((i : ℕ) → i < length xs → get_elem? xs i ≡ get_elem? ys i) → xs ≡ ys
  same_places [] [] l h = refl
  same_places [] (y ∷ ys) l h = absurd (omega arith)
  same_places (x ∷ xs) [] l h = absurd (omega arith)
  same_places (x ∷ xs) (y ∷ ys) l h =
      let e : some x ≡ some y = h 0 (omega arith) in
      let f : xs ≡ ys = same_places xs ys (omega arith) (λ i k. h (suc i) (omega arith)) in
      cc

module _ {C : Type 0} where
  pub tick-call : (es : List (Event C)) (i j : ℕ) (c : C) → get_elem? es i ≡ some tick → get_elem? es j ≡ some (call c) → j ≡ i → ⊥
  tick-call es i j c h k e = let z : ◌≡◌ {A = ℕ} 0 1 = cc in omega arith

  -- what stands at a place
  pub data At (es : List (Event C)) (i : ℕ) : Type 0 where
    at_tick : get_elem? es i ≡ some tick → At es i
    at_call : (c : C) → get_elem? es i ≡ some (call c) → At es i
    at_switchover : get_elem? es i ≡ some switchover → At es i
    past : get_elem? es i ≡ none → At es i

  pub at : (es : List (Event C)) (i : ℕ) → At es i
  at es i = go (get_elem? es i) refl
    where
      go : (o : Option (Event C)) → get_elem? es i ≡ o → At es i
      go none e = past e
      go (some tick) e = at_tick e
      go (some (call c)) e = at_call c e
      go (some switchover) e = at_switchover e

  -- the ticks before the next event
  abbrev beaten : Event C → ℕ → ℕ
  beaten tick n = suc n
  beaten (call c) n = n
  beaten switchover n = n

  beaten-suc : (e : Event C) (n : ℕ) → suc (beaten e n) ≡ beaten e (suc n)
  beaten-suc tick n = refl
  beaten-suc (call c) n = refl
  beaten-suc switchover n = refl

  ticks_first : (es : List (Event C)) (e : Event C) → ticks 1 (e ∷ es) ≡ beaten e 0
  ticks_first es tick = refl
  ticks_first es (call c) = refl
  ticks_first es switchover = refl

  ticks_at : (es : List (Event C)) (i : ℕ) (e : Event C) → get_elem? es i ≡ some e → ticks (suc i) es ≡ beaten e (ticks i es)
  ticks_at [] i e h = absurd (none-ne-some e h)
  ticks_at (x ∷ es) zero e h = let f : x ≡ e = cc in rw (← f) (ticks_first es x)
  ticks_at (tick ∷ es) (suc i) e h = ap suc (ticks_at es i e h) ∙ beaten-suc e (ticks i es)
  ticks_at (call c ∷ es) (suc i) e h = ticks_at es i e h
  ticks_at (switchover ∷ es) (suc i) e h = ticks_at es i e h

  pub ticks-tick : (es : List (Event C)) (i : ℕ) → get_elem? es i ≡ some tick → ticks (suc i) es ≡ suc (ticks i es)
  ticks-tick es i = ticks_at es i tick

  pub ticks-call : (es : List (Event C)) (i : ℕ) (c : C) → get_elem? es i ≡ some (call c) → ticks (suc i) es ≡ ticks i es
  ticks-call es i c = ticks_at es i (call c)

  pub ticks-switchover : (es : List (Event C)) (i : ℕ) → get_elem? es i ≡ some switchover → ticks (suc i) es ≡ ticks i es
  ticks-switchover es i = ticks_at es i switchover

  pub ticks_past : (es : List (Event C)) (i : ℕ) → get_elem? es i ≡ none → ticks (suc i) es ≡ ticks i es
  ticks_past [] zero h = refl
  ticks_past [] (suc i) h = refl
  ticks_past (e ∷ es) zero h = absurd (none-ne-some e (sym h))
  ticks_past (tick ∷ es) (suc i) h = ap suc (ticks_past es i h)
  ticks_past (call c ∷ es) (suc i) h = ticks_past es i h
  ticks_past (switchover ∷ es) (suc i) h = ticks_past es i h

  ticks-suc : (es : List (Event C)) (i : ℕ) → ticks i es ≤ ticks (suc i) es
  ticks-suc es i = go (at es i)
    where
      go : At es i → ticks i es ≤ ticks (suc i) es
      go (at_tick h) = omega (arith, ticks-tick es i h)
      go (at_call c h) = omega (arith, ticks-call es i c h)
      go (at_switchover h) = omega (arith, ticks-switchover es i h)
      go (past h) = omega (arith, ticks_past es i h)

  pub ticks_mono : (es : List (Event C)) (i j : ℕ) → i ≤ j → ticks i es ≤ ticks j es
  ticks_mono es i zero h = let e : i ≡ 0 = omega arith in rw e (omega arith)
  ticks_mono es i (suc j) h = go (dec_le i j) (λ k. ticks_mono es i j k)
    where
      go : Dec (i ≤ j) → (i ≤ j → ticks i es ≤ ticks j es) → ticks i es ≤ ticks (suc j) es
      go (yes k) f = omega (arith, f k, ticks-suc es j)
      go (no k) f = let e : i ≡ suc j = omega arith in rw e (omega arith)

  -- the tick with k ticks before it, among the first n events
  abbrev pub NthTick : List (Event C) → ℕ → ℕ → Type 0
  NthTick es n k = (i : ℕ) × (i < n) × (get_elem? es i ≡ some tick) × (ticks i es ≡ k)

  pub nth_tick : (es : List (Event C)) (n k : ℕ) → k < ticks n es → NthTick es n k
  nth_tick es zero k h = absurd (omega arith)
  nth_tick es (suc n) k h = go (at es n) (λ l. nth_tick es n k l)
    where
      up : NthTick es n k → NthTick es (suc n) k
      up f = (f.0, omega arith, f.2, f.3)

      last : get_elem? es n ≡ some tick → Dec (suc k ≤ ticks n es) → (k < ticks n es → NthTick es n k) → NthTick es (suc n) k
      last e (yes l) f = up (f l)
      last e (no l) f = (n, omega arith, e, omega (arith, ticks-tick es n e))

      go : At es n → (k < ticks n es → NthTick es n k) → NthTick es (suc n) k
      go (at_tick e) f = last e (dec_le (suc k) (ticks n es)) f
      go (at_call c e) f = up (f (omega (arith, ticks-call es n c e)))
      go (at_switchover e) f = up (f (omega (arith, ticks-switchover es n e)))
      go (past e) f = up (f (omega (arith, ticks_past es n e)))

module _ (N : Node) where
  -- the table that a run has after its first i events
  abbrev pub after : Slots → ℕ → List (Event N.Call) → Slots
  after t i es = final N t (take i es)

  pub after-suc :
      (t : Slots) (es : List (Event N.Call)) (i : ℕ) (e : Event N.Call) → get_elem? es i ≡ some e → after t (suc i) es ≡ step N (after t i es) e
  after-suc t [] i e h = absurd (none-ne-some e h)
  after-suc t (x ∷ es) zero e h = let f : x ≡ e = cc in rw f
  after-suc t (x ∷ es) (suc i) e h = after-suc (step N t x) es i e h

  pub after_past : (t : Slots) (es : List (Event N.Call)) (i : ℕ) → get_elem? es i ≡ none → after t (suc i) es ≡ after t i es
  after_past t [] zero h = refl
  after_past t [] (suc i) h = refl
  after_past t (x ∷ es) zero h = absurd (none-ne-some x (sym h))
  after_past t (x ∷ es) (suc i) h = after_past (step N t x) es i h

  pub result_at :
      (t : Slots) (es : List (Event N.Call)) (i : ℕ) (e : Event N.Call)
      → get_elem? es i ≡ some e
      → get_elem? (run N t es) i ≡ some (result N (final N t (take i es)) e)
  result_at t [] i e h = absurd (none-ne-some e h)
  result_at t (x ∷ es) zero e h = let f : x ≡ e = cc in rw f
  result_at t (x ∷ es) (suc i) e h = result_at (step N t x) es i e h

  pub counts_length : (t : Slots) (es : List (Event N.Call)) → length (tick_counts (run N t es)) ≡ ticks (length es) es
  counts_length t [] = refl
  counts_length t (tick ∷ es) = ap suc (counts_length (step N t tick) es)
  counts_length t (call c ∷ es) = counts_length (step N t (call c)) es
  counts_length t (switchover ∷ es) = counts_length (step N t switchover) es

  pub counts_at :
      (t : Slots) (es : List (Event N.Call)) (i : ℕ)
      → get_elem? es i ≡ some tick
      → get_elem? (tick_counts (run N t es)) (ticks i es) ≡ some (emptied (after t i es))
  counts_at t [] i h = absurd (none-ne-some tick h)
  counts_at t (tick ∷ es) zero h = refl
  counts_at t (call c ∷ es) zero h = cc
  counts_at t (switchover ∷ es) zero h = cc
  counts_at t (tick ∷ es) (suc i) h = counts_at (step N t tick) es i h
  counts_at t (call c ∷ es) (suc i) h = counts_at (step N t (call c)) es i h
  counts_at t (switchover ∷ es) (suc i) h = counts_at (step N t switchover) es i h
