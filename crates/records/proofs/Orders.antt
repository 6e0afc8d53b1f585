-- The order of calls at a node does not matter: `order_free`. The records of an identity are the same at matching places of the two
-- runs, and from them alone come the answers, the ticks' counts and the records at the end.
-- Assumes nothing.
use Prim.Native.Nat.{ℕ}
use mathlib.Core.Path.{◌≡◌, sym, ap, ◌∙◌}
use mathlib.Core.Bool.{Bool, true, false}
use mathlib.Core.List.{List}
use mathlib.Core.Option.{some}
use native.Mathlib.Omega.{arith}
use borrow.Author.Tests.{eqb-true, eqb-false, ne_eqb}
use lib.ListN.{length, get_elem?}
use lib.Seq.{take-length}
use Rattle.records.specs.declared.Identity.{Identity}
use Rattle.records.specs.declared.Record.{Record}
use Rattle.records.specs.Slots.{Slots, empty, count, emptied}
use Rattle.records.specs.Node.{table_answer, Node, Lawful, Event, call, run, final}
use Rattle.records.specs.Order.{tick_counts, same_record, NoWant, Reordered, OrderFree}
use Rattle.records.proofs.View.{view, equal_views}
use Rattle.records.proofs.Effects.{answer_alike}
use Rattle.records.proofs.Places.{same_places, NthTick, nth_tick, after, result_at, counts_length, counts_at}
use Rattle.records.proofs.Cuts.{not_full, tick-Cut, call_cut, end_cut, cut_view}

emptied_alike : (t u : Slots) → ((q : Identity) → view q t ≡ view q u) → emptied t ≡ emptied u
emptied_alike = equal_views _ (λ s e. rw (eqb-true s.wait 0 e))

-- an empty slot is no record's like
empty_unlike : (r s : Record) → empty r ≡ false → empty s ≡ true → same_record r s ≡ false
unfolding same_record
empty_unlike r s l e = rw (ne_eqb r.wait s.wait (λ h. eqb-false r.wait 0 l (h ∙ eqb-true s.wait 0 e)))

module _
    (N : Node) (L : Lawful N) (t : Slots) (es fs : List (Event N.Call))
    (R : Reordered N es fs)
    (wes : NoWant N t es)
    (wfs : NoWant N t fs) where
  replies : (i : ℕ) (c : N.Call) → get_elem? es i ≡ some (call c) → get_elem? (run N t es) i ≡ get_elem? (run N t fs) (R.to i)
  replies i c e =
      let f : get_elem? fs (R.to i) ≡ some (call c) = R.there i c e in
      let h : table_answer (N.request c) (after N t i es) ≡ table_answer (N.request c) (after N t (R.to i) fs) =
      answer_alike (N.request c) (after N t i es) (after N t (R.to i) fs)
      (λ q a. cut_view N es fs R L t wes wfs q i (R.to i) (call_cut N es fs R q i (c, e, L.own c q a)))
      (not_full N L t es wes i c e)
      (not_full N L t fs wfs (R.to i) c f) in
      rw (result_at N t es i (call c) e, result_at N t fs (R.to i) (call c) f, h)

  counts : tick_counts (run N t es) ≡ tick_counts (run N t fs)
  counts =
      same_places (tick_counts (run N t es)) (tick_counts (run N t fs)) lengths
      (λ k h.
      at k (nth_tick es (length es) k (omega (arith, counts_length N t es)))
      (nth_tick fs (length fs) k (omega (arith, lengths, counts_length N t fs))))
    where
      lengths : length (tick_counts (run N t es)) ≡ length (tick_counts (run N t fs))
      lengths = counts_length N t es ∙ R.same_ticks ∙ sym (counts_length N t fs)

      at :
          (k : ℕ)
          → NthTick es (length es) k
          → NthTick fs (length fs) k
          → get_elem? (tick_counts (run N t es)) k ≡ get_elem? (tick_counts (run N t fs)) k
      at k (i, a, e, x) (j, b, f, y) =
          let h : emptied (after N t i es) ≡ emptied (after N t j fs) =
          emptied_alike (after N t i es) (after N t j fs)
          (λ q. cut_view N es fs R L t wes wfs q i j (tick-Cut N es fs R q i j e f (x ∙ sym y))) in
          rw x at (counts_at N t es i e) ∙ ap some h ∙ sym (rw y at (counts_at N t fs j f))

  -- as many records pass a test, at the ends
  pub ends_alike : (p : Record → Bool) → ((s : Record) → empty s ≡ true → p s ≡ false) → count p (final N t es) ≡ count p (final N t fs)
  ends_alike p full =
      rw (take-length es, take-length fs)
      at (equal_views p full (after N t (length es) es) (after N t (length fs) fs)
      (λ q. cut_view N es fs R L t wes wfs q (length es) (length fs) (end_cut N es fs R q)))

  records : (r : Record) → empty r ≡ false → count (same_record r) (final N t es) ≡ count (same_record r) (final N t fs)
  records r l = ends_alike (same_record r) (λ s. empty_unlike r s l)

pub order_free : (N : Node) → Lawful N → OrderFree N
order_free N L t es fs R wes wfs =
    record { replies = replies N L t es fs R wes wfs; same_tick_counts = counts N L t es fs R wes wfs; records = records N L t es fs R wes wfs }
