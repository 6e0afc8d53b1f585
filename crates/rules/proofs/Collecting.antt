-- The second message at a node of the path: a record that it finds is the first one's, and what is added waited.
-- Assumes nothing.
use Prim.Native.Nat.{ℕ, ◌<◌}
use mathlib.Core.Path.{◌≡◌, refl, sym, ap, ◌∙◌, subst}
use mathlib.Core.List.{List}
use mathlib.Core.Logic.{◌⊎◌, inl, inr}
use mathlib.Core.Option.{some}
use native.Mathlib.Omega.{arith}
use native.Mathlib.Decide.{dec_lt}
use lib.ListN.{get_elem?, take}
use Rattle.refusal.specs.Answer.{Answer, value, refused}
use Rattle.refusal.proofs.Answers.{not_both, Numbered}
use Rattle.residence.specs.Residence.{accepted_of}
use Rattle.records.specs.declared.RecordKind.{RecordKind}
use Rattle.records.specs.declared.Identity.{Identity}
use Rattle.records.specs.Slots.{Slots, collect_answer}
use Rattle.records.specs.Ageing.{Waits}
use Rattle.records.specs.Node.{Request, add, collect, table_answer, add_leaves, table_after, call, final}
use Rattle.records.proofs.Alone.{absent_before, only_that}
use Rattle.scratch_pad.specs.Sum.{raised}
use Rattle.rules.specs.Change.{pad_of}
use Rattle.rules.specs.Rules.{first_of, second_of, kind_identity, kind_of, Mode, two_step, Call, Word, waiting, added, Reply, keep, gather, keep_request, rules}
use Rattle.rules.specs.Path.{Stop, Visit, Apart, answer_in, second_answer, answer_at, units_of, residence_at}
use Rattle.rules.proofs.Calls.{reply_is, request_is, first_keeps, first_asks, second_gathers, second_asks, when, SecondSays, added_second, SecondGiven, second_call}
use Rattle.rules.proofs.Laws.{lawful, put_in}
use Rattle.rules.proofs.Crossing.{Grown, asked, came, of_kind, added_at, first_units}

-- ---- the first message at a node that is ready for the second

-- a node that the first message crosses, a Sync with S set or a Delay_Req
pub record Ready (x : RecordKind) (q : Identity) (n : Stop) : Type 0 where
  pub apart : Apart q n
  pub octets : List ℕ
  pub reply : Reply
  pub visit : Visit n n.first_place octets reply
  pub kind : kind_of octets ≡ first_of x q

abbrev pub adder : {a : RecordKind} {q : Identity} {n : Stop} → Ready a q n → Call
adder y = y.visit.handed

-- the first message waited there with the residence v
record Kept (n : Stop) (r : Reply) (v : ℕ) : Type 0 where
  pub units_of_it : v ≡ residence_at n
  pub waited : r.answer ≡ value waiting

-- the table before the event at place x, and a call there that leaves it as it came
module _ (n : Stop) where
  abbrev pub before : ℕ → Slots
  before x = final rules n.table (take x n.events)

  abbrev pub Leaves : ℕ → Call → Type 0
  Leaves x c = table_after (rules.request c) (before x) ≡ before x

-- a place has one call
pub same_call : {c d : Call} → some (call c) ≡ some (call d) → c ≡ d
same_call e = cc

pub is_first : (a : RecordKind) (q : Identity) (n : Stop) (y : Ready a q n) → kind_of (adder y).message ≡ first_of a q
is_first a q n y = ap kind_of y.visit.octets ∙ y.kind

-- what a two-step node's call on the first message asks
module _ (a : RecordKind) (q : Identity) (n : Stop) (y : Ready a q n) (o : n.mode ≡ two_step) where
  in_two_step : (adder y).mode ≡ two_step
  in_two_step = y.visit.mode ∙ o

  pub asks : rules.request (adder y) ≡ keep_request q (accepted_of (adder y).residence)
  asks = request_is (adder y) two_step (first_of a q) in_two_step (is_first a q n y) ∙ first_asks (adder y).residence a q

  -- and is answered
  keeps : y.reply ≡ keep (adder y) (accepted_of (adder y).residence) (table_answer (rules.request (adder y)) (before n n.first_place))
  keeps =
      let i = n.first_place in
      let t = asked n i y.octets y.reply y.visit in
      came n i y.octets y.reply y.visit
      ∙ reply_is (adder y) t two_step (first_of a q) in_two_step (is_first a q n y)
      ∙ first_keeps (adder y) t a q

  asks_to_add : (u : ℕ) → accepted_of (adder y).residence ≡ value u → rules.request (adder y) ≡ add q u
  asks_to_add u e = asks ∙ ap (keep_request q) e

  -- "waiting" where the table takes its residence, and only there
  pub record Taken : Type 0 where
    pub units_taken : ℕ
    pub accepted : accepted_of (adder y).residence ≡ value units_taken
    pub into_slot : table_answer (add q units_taken) (before n n.first_place) ≡ value 0

  taken_waits : Taken → y.reply.answer ≡ value waiting
  taken_waits t =
      let T = before n n.first_place in
      let g : table_answer (rules.request (adder y)) T ≡ value 0 =
      ap (λ (r : Request). table_answer r T) (asks_to_add t.units_taken t.accepted) ∙ t.into_slot in
      ap (λ (r : Reply). r.answer) (keeps ∙ (λ j. keep (adder y) (t.accepted j) (g j)))

  pub waiting-Taken : y.reply.answer ≡ value waiting → Taken
  waiting-Taken w = go (accepted_of (adder y).residence) refl
    where
      T : Slots
      T = before n n.first_place

      go : (b : Answer ℕ) → accepted_of (adder y).residence ≡ b → Taken
      go (refused i) e =
          let t = table_answer (rules.request (adder y)) T in
          absurd (not_both (sym (ap (λ (r : Reply). r.answer) (keeps ∙ ap (λ (b : Answer ℕ). keep (adder y) b t) e)) ∙ w))
      go (value u) e = record { units_taken = u; accepted = e; into_slot = put_in q u T (λ i g. not_both (sym (refusing i g) ∙ w)) }
        where
          refusing : (i : ℕ) → table_answer (add q u) T ≡ refused i → y.reply.answer ≡ refused i
          refusing i g =
              let t : table_answer (rules.request (adder y)) T ≡ refused i = ap (λ (r : Request). table_answer r T) (asks_to_add u e) ∙ g in
              ap (λ (r : Reply). r.answer) (keeps ∙ (λ j. keep (adder y) (e j) (t j)))

-- ---- the second message at a node

-- a node that adds is two-step
adder_mode : {m : Mode} → SecondSays m (value added) → m ≡ two_step
adder_mode added_second = refl

module _ (a : RecordKind) (q : Identity) (n : Stop) (y : Ready a q n) (k : ℕ) (place : n.second_place ≡ some k) (o : n.mode ≡ two_step) where
  -- the calls of the identity before place k
  others : (x : ℕ) (c : Call) → x < k → get_elem? n.events x ≡ some (call c) → kind_identity (kind_of c.message) ≡ some q → x ≡ n.first_place
  others x c l h g = by (y.apart.others x c h g)
    where
      by : (x ≡ n.first_place) ⊎ (some x ≡ n.second_place) → x ≡ n.first_place
      by (inl z) = z
      by (inr z) = let w : x ≡ k = cc in absurd (omega arith)

  -- the first message's record, from its place to k
  pub record_waits : (t : Taken a q n y o) → n.first_place < k → Waits rules n.table n.events q t.units_taken n.first_place k
  record_waits t l =
      record {
        adder = adder y;
        here = y.visit.here;
        asks = asks_to_add a q n y o t.units_taken t.accepted;
        taken = t.into_slot;
        before = l;
        alone = λ x c s b h i. omega (arith, others x c b h i);
      }

  -- a record that the second message finds there is the first one's
  module _ (v : ℕ) (found : table_answer (collect q) (before n k) ≡ value v) where
    -- none is found where the first message's call is not before k, or leaves the table as it came
    absent : ((x : ℕ) (c : Call) → x < k → x ≡ n.first_place → get_elem? n.events x ≡ some (call c) → Leaves n x c) → ⊥
    absent h =
        let f = absent_before rules lawful n.table n.events q k y.apart.free (λ x c l e g. h x c l (others x c l e g) e) in
        not_both (sym (ap collect_answer f) ∙ found)

    nothing_kept : Leaves n n.first_place (adder y) → ⊥
    nothing_kept h = absent (λ x c l z e. same x c z e)
      where
        same : (x : ℕ) (c : Call) → x ≡ n.first_place → get_elem? n.events x ≡ some (call c) → Leaves n x c
        same x c z e =
            let f : adder y ≡ c = same_call (sym y.visit.here ∙ ap (get_elem? n.events) (sym z) ∙ e) in
            subst (Leaves n x) f (subst (λ (j : ℕ). Leaves n j (adder y)) (sym z) h)

    -- or the call puts its residence in
    taken : (b : Answer ℕ) → accepted_of (adder y).residence ≡ b → Taken a q n y o
    taken (refused m) e =
        absurd (nothing_kept (ap (λ (r : Request). table_after r (before n n.first_place)) (asks a q n y o ∙ ap (keep_request q) e)))
    taken (value u) e =
        let T = before n n.first_place in
        let left : (i : ℕ) → table_answer (add q u) T ≡ refused i → Leaves n n.first_place (adder y) =
        λ i g. ap (λ (r : Request). table_after r T) (asks_to_add a q n y o u e) ∙ ap (add_leaves q u T) g in
        record { units_taken = u; accepted = e; into_slot = put_in q u T (λ i g. nothing_kept (left i g)) }

    the_record : Kept n y.reply v
    the_record = go (dec_lt n.first_place k) (taken (accepted_of (adder y).residence) refl)
      where
        go : Dec (n.first_place < k) → Taken a q n y o → Kept n y.reply v
        go (no l) t = absurd (absent (λ x c b z e. absurd (omega arith)))
        go (yes l) t =
            record {
              units_of_it =
                  only_that rules lawful n.table n.events q t.units_taken n.first_place k (record_waits t l) v found
                  ∙ sym (ap units_of t.accepted)
                  ∙ first_units q n y.octets y.reply y.visit;
              waited = taken_waits a q n y o t;
            }

module _ (a : RecordKind) (q : Identity) (n : Stop) (y : Ready a q n) (k : ℕ) (place : n.second_place ≡ some k) (f : List ℕ) (r : Reply) (v : Visit n k f r) (e : kind_of f ≡ second_of a q) where
  pub answered_second : second_answer n ≡ some r.answer
  answered_second = ap (answer_at n) place ∙ ap answer_in v.outcome

  pub record SecondAt : Type 0 where
    pub says_it : SecondSays n.mode r.answer
    pub number : Numbered (SecondGiven (asked n k f r v) n.mode) r.answer
    pub grown : Grown (second_of a q) f r.message (added_at n)

  pub is_second : kind_of v.handed.message ≡ second_of a q
  is_second = of_kind n k f r v (second_of a q) e

  -- what a two-step node asks and finds for it
  pub collects : n.mode ≡ two_step → rules.request v.handed ≡ collect q
  collects o = request_is v.handed two_step (second_of a q) (v.mode ∙ o) is_second ∙ second_asks v.handed.residence a q

  finds : n.mode ≡ two_step → (u : ℕ) → asked n k f r v ≡ value u → Kept n y.reply u
  finds o u g = the_record a q n y k place o u (sym (ap (λ (z : Request). table_answer z (before n k)) (collects o)) ∙ g)

  pub second_at : SecondAt
  second_at =
      let c = v.handed in
      let x = second_call c (asked n k f r v) q (residence_at n) a n.mode v.mode is_second (λ o u g. (finds o u g).units_of_it) in
      let g = came n k f r v in
      let z : r.answer ≡ (rules.reply c (asked n k f r v)).answer = ap (λ (w : Reply). w.answer) g in
      let o : some (rules.reply c (asked n k f r v)).answer ≡ second_answer n = ap some (sym z) ∙ sym answered_second in
      record {
        says_it = subst (λ (b : Answer Word). SecondSays n.mode b) (sym z) x.says_it;
        number = subst (λ (b : Answer Word). Numbered (SecondGiven (asked n k f r v) n.mode) b) (sym z) x.number;
        grown =
            record {
              kind = ap (λ (w : Reply). kind_of w.message) g ∙ x.kind;
              pad =
                  ap (λ (w : Reply). pad_of w.message) g
                  ∙ x.pad
                  ∙ (λ j. raised (pad_of (v.octets j)) (when added (o j) (residence_at n)));
            };
      }

  pub gathers : n.mode ≡ two_step → r ≡ gather v.handed (asked n k f r v)
  gathers o =
      came n k f r v
      ∙ reply_is v.handed (asked n k f r v) two_step (second_of a q) (v.mode ∙ o) is_second
      ∙ second_gathers v.handed (asked n k f r v) a q

  -- what is added waited
  pub added_waited : r.answer ≡ value added → y.reply.answer ≡ value waiting
  added_waited h = go (asked n k f r v) refl (sym (ap (λ (w : Reply). w.answer) (gathers at_two_step)) ∙ h)
    where
      at_two_step : n.mode ≡ two_step
      at_two_step = adder_mode (subst (λ (b : Answer Word). SecondSays n.mode b) h second_at.says_it)

      go : (t : Answer ℕ) → asked n k f r v ≡ t → (gather v.handed t).answer ≡ value added → y.reply.answer ≡ value waiting
      go (refused i) g s = absurd (not_both s)
      go (value u) g s = (finds at_two_step u g).waited
