-- Document 01's rules meet what the theorem about orders asks of a node, and so the order of calls does not matter there; and a
-- record that a Sync or a Delay_Req left is found up to the second tick and gone at the third.
-- Assumes nothing.
use Prim.Native.Nat.{ℕ}
use mathlib.Core.Path.{◌≡◌, refl, sym, ap, ◌∙◌}
use mathlib.Core.Bool.{Bool, true, false, true≢false}
use mathlib.Core.List.{List}
use mathlib.Core.Option.{Option, none, some, none-ne-some}
use lib.ListN.{get_elem?, take}
use Rattle.refusal.specs.Answer.{Answer, value, refused}
use Rattle.refusal.proofs.Answers.{not_both}
use Rattle.residence.specs.Residence.{Residence}
use Rattle.residence.specs.Residence.{accepted_of}
use Rattle.records.specs.declared.RecordKind.{RecordKind}
use Rattle.records.specs.declared.RecordKind.TheVariants.{Sync, Delay}
use Rattle.records.specs.declared.Identity.{Identity}
use Rattle.records.specs.declared.Record.{Record}
use Rattle.records.specs.Slots.{Slots, find, vacant, add_answer, collect_answer}
use Rattle.records.specs.Node.{Request, nothing, add, collect, table_answer, asked, Lawful, Event, call, replied, run, final}
use Rattle.records.specs.Ageing.{Waits}
use Rattle.records.proofs.Orders.{order_free}
use Rattle.records.proofs.Alone.{result_at, found_in_time, gone_at_third}
use Rattle.image.proofs.Returns.{switched_keeps}
use Rattle.rules.specs.Rules.{Kind, sync, follow_up, delay_req, delay_resp, first_of, second_of, timed, untimed, unreadable, kind_identity, kind_of, Mode, one_step, two_step, Call, Reply, waiting, as_it_came, keep, gather, keep_request, request_by, reply_by, rules}
use Rattle.rules.specs.Demand3.{OrderDoesNotMatter, Waiting, AddedInTime, GoneAtThirdTick}
use Rattle.rules.proofs.Calls.{reply_is, request_is, first_keeps, first_asks, second_gathers, second_asks}

-- a call asks only for the record of its own identity
own_kept : (p q : Identity) (a : Answer ℕ) → asked (keep_request p a) ≡ some q → some p ≡ some q
own_kept p q (value u) h = h
own_kept p q (refused n) h = absurd (none-ne-some q h)

pub own : (m : Mode) (r : Residence) (k : Kind) (q : Identity) → asked (request_by m r k) ≡ some q → kind_identity k ≡ some q
own one_step r k q e = absurd (none-ne-some q e)
own two_step r (sync p false) q e = absurd (none-ne-some q e)
own two_step r (sync p true) q e = own_kept p q (accepted_of r) e
own two_step r (delay_req p) q e = own_kept p q (accepted_of r) e
own two_step r (follow_up p) q e = e
own two_step r (delay_resp p) q e = e
own two_step r timed q e = e
own two_step r untimed q e = e
own two_step r (unreadable n) q e = e

-- a call that asks for no record to be added
abbrev adds : Request → Bool
adds nothing = false
adds (add q u) = true
adds (collect q) = false

no_add : {A : Type 0} {a : Request} {q : Identity} {u : ℕ} → adds a ≡ false → a ≡ add q u → A
no_add f e = absurd (true≢false (sym (ap adds e) ∙ f))

-- only a two-step node's Sync with S set, or Delay_Req, asks for a record to be added, with the residence that was accepted
add_kept : (p q : Identity) (u : ℕ) (a : Answer ℕ) → keep_request p a ≡ add q u → (p ≡ q) × (a ≡ value u)
add_kept p q u (value v) h = (cc, cc)
add_kept p q u (refused n) h = no_add refl h

pub asks_add :
    (m : Mode) (r : Residence) (k : Kind) (q : Identity) (u : ℕ)
    → request_by m r k ≡ add q u
    → (x : RecordKind) × (m ≡ two_step) × (k ≡ first_of x q) × (accepted_of r ≡ value u)
asks_add one_step r k q u e = no_add refl e
asks_add two_step r (sync p false) q u e = no_add refl e
asks_add two_step r (sync p true) q u e = let a = add_kept p q u (accepted_of r) e in (Sync, refl, ap (λ (i : Identity). sync i true) a.0, a.1)
asks_add two_step r (delay_req p) q u e = let a = add_kept p q u (accepted_of r) e in (Delay, refl, ap delay_req a.0, a.1)
asks_add two_step r (follow_up p) q u e = no_add refl e
asks_add two_step r (delay_resp p) q u e = no_add refl e
asks_add two_step r timed q u e = no_add refl e
asks_add two_step r untimed q u e = no_add refl e
asks_add two_step r (unreadable n) q u e = no_add refl e

-- and it answers 14 where it is told that no slot is empty
want : (m : Mode) (c : Call) (k : Kind) (q : Identity) (u : ℕ) → request_by m c.residence k ≡ add q u → (reply_by m c (refused 14) k).answer ≡ refused 14
want m c k q u e =
    let a = asks_add m c.residence k q u e in
    ap (λ (n : Mode). (reply_by n c (refused 14) k).answer) a.1
    ∙ ap (λ (l : Kind). (reply_by two_step c (refused 14) l).answer) a.2
    ∙ ap (λ (r : Reply). r.answer) (first_keeps c (refused 14) a.0 q)
    ∙ ap (λ (b : Answer ℕ). (keep c b (refused 14)).answer) a.3

pub lawful : Lawful rules
lawful =
    record {
      own = λ c q e. own c.mode c.residence (kind_of c.message) q e;
      want = λ c q u e. want c.mode c (kind_of c.message) q u e;
      kept = switched_keeps;
    }

-- demand 3, second half
pub order_does_not_matter : OrderDoesNotMatter
order_does_not_matter = order_free rules lawful

-- what a call came to, from the result at its place
pub reply_at :
    (t : Slots) (es : List (Event Call)) (i : ℕ) (c : Call)
    → get_elem? es i ≡ some (call c)
    → get_elem? (run rules t es) i ≡ some (replied (rules.reply c (table_answer (rules.request c) (final rules t (take i es)))))
reply_at t es i c e = result_at rules t es i (call c) e

pub came_to :
    (t : Slots) (es : List (Event Call)) (i : ℕ) (c : Call) (r : Reply)
    → get_elem? es i ≡ some (call c)
    → get_elem? (run rules t es) i ≡ some (replied r)
    → r ≡ rules.reply c (table_answer (rules.request c) (final rules t (take i es)))
came_to t es i c r e f = cc (reply_at t es i c e)

-- a record that the table does not refuse is put in
pub put_in : (q : Identity) (u : ℕ) (t : Slots) → ((n : ℕ) → table_answer (add q u) t ≡ refused n → ⊥) → table_answer (add q u) t ≡ value 0
put_in q u t fine = go (find q t) (vacant t) fine
  where
    go : (o : Option Record) (b : Bool) → ((n : ℕ) → add_answer o b ≡ refused n → ⊥) → add_answer o b ≡ value 0
    go (some r) b h = absurd (h 13 refl)
    go none true h = refl
    go none false h = absurd (h 14 refl)

module _ (t : Slots) (es : List (Event Call)) (q : Identity) (u i j : ℕ) (d : Call) (w : Waiting t es q u i j d) where
  abbrev k : RecordKind
  k = q.kind

  waits : Waits rules t es q u i j
  waits =
      let c = w.handed in
      let T = final rules t (take i es) in
      let asks = request_is c two_step (first_of k q) w.at_two_step w.is_first ∙ first_asks c.residence k q ∙ ap (keep_request q) w.units in
      let came =
      came_to t es i c (as_it_came c (value waiting)) w.here w.outcome
      ∙ reply_is c (table_answer (rules.request c) T) two_step (first_of k q) w.at_two_step w.is_first
      ∙ first_keeps c (table_answer (rules.request c) T) k q
      ∙ (λ x. keep c (w.units x) (table_answer (asks x) T)) in
      record {
        adder = c;
        here = w.here;
        asks = asks;
        taken = put_in q u T (λ n e. not_both (sym (ap (λ (r : Reply). r.answer) (came ∙ ap (keep c (value u)) e))));
        before = w.then;
        alone = w.between;
      }

  -- the second message's reply, by what the table has for it
  answered : get_elem? (run rules t es) j ≡ some (replied (gather d (table_answer (collect q) (final rules t (take j es)))))
  answered =
      let T = final rules t (take j es) in
      let asks = request_is d two_step (second_of k q) w.two_step_too w.is_second ∙ second_asks d.residence k q in
      reply_at t es j d w.there
      ∙ ap (λ (r : Reply). some (replied r))
      (reply_is d (table_answer (rules.request d) T) two_step (second_of k q) w.two_step_too w.is_second
      ∙ second_gathers d (table_answer (rules.request d) T) k q)
      ∙ ap (λ (a : Request). some (replied (gather d (table_answer a T)))) asks

pub added_in_time : AddedInTime
added_in_time t es q u i j d w h =
    answered t es q u i j d w ∙ ap (λ (a : Answer ℕ). some (replied (gather d a))) (found_in_time rules lawful t es q u i j (waits t es q u i j d w) h)

pub gone_at_third_tick : GoneAtThirdTick
gone_at_third_tick t es q u i j d w h =
    let g = gone_at_third rules lawful t es q u i j (waits t es q u i j d w) h in
    (g, answered t es q u i j d w ∙ ap (λ (o : Option Record). some (replied (gather d (collect_answer o)))) g)
