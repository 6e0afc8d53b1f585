-- For the worked examples of demand 3 and of W-213: messages of type 3, calls on them, the answers of a run, every place of a list in turn, and two orders.
-- Assumes nothing.
use Prim.Native.Nat.{ℕ, zero, suc, ◌*◌, ◌<◌}
use mathlib.Core.Path.{◌≡◌, refl, sym, ap, subst, ◌∙◌}
use mathlib.Core.Bool.{Bool, false, true≢false}
use mathlib.Core.List.{List, [], ◌∷◌, ◌++◌, map}
use mathlib.Core.Logic.{◌⊎◌, inl, inr}
use mathlib.Core.Option.{Option, none, some, none-ne-some}
use native.Mathlib.Omega.{arith}
use lib.IntN.{ℤ}
use lib.ListN.{length, get_elem?, replicate}
use Rattle.octets.specs.Octets.{Octets}
use Rattle.refusal.specs.Answer.{Answer, value, refused}
use Rattle.refusal.proofs.Answers.{not_both}
use Rattle.residence.specs.Residence.{Residence}
use Rattle.std.specs.Prelude.{Ok, Err}
use Rattle.residence.specs.Residence.{accepted_of}
use Rattle.message.specs.Write.{ptp_octets}
use Rattle.records.specs.declared.RecordKind.TheVariants.{Sync}
use Rattle.records.specs.declared.Identity.{Identity}
use Rattle.records.specs.declared.Record.{Record}
use Rattle.records.specs.Slots.{Slots, same, zeros, find}
use Rattle.records.specs.Node.{Event, tick, call, switchover, Result, told, replied, taken_over, run}
use Rattle.records.specs.Order.{ticks, Reordered, NoWant}
use Rattle.records.proofs.Holding.{same_refl}
use Rattle.rules.specs.Rules.{first_of, second_of, kind_of, kind_identity, Mode, two_step, Call, Word, created, waiting, as_it_came, Reply, rules}
use Rattle.rules.specs.Path.{Stop, ReplyAt, first_answer, second_answer, FirstUnrefused, Unrefused, Visit, Apart, Every}
use Rattle.rules.specs.Demand3.{Waiting}
use Rattle.rules.specs.Credited.{says}
use Rattle.rules.proofs.Answered.{is_refused, not_refused}
use Rattle.rules.proofs.Pads.{every_map}

-- the identity of document 01's cases, and others of its port: port 00 01 02 03 04 05 06 07 00 01
abbrev pub numbered : ℕ → Identity
numbered n = record { kind = Sync; clock = 0x0001020304050607; port = 1; sequence = n }

-- the octets of a neighbour's message with this identity, by S, PTPType and pad: its sub-TLV states 16
abbrev pub octets_of : Identity → Bool → ℕ → ℤ → List ℕ
octets_of q s k pad =
    ptp_octets
    (record {
      header = record { message_type = 3; pad = pad };
      sub_tlv = record { length = 16; two_step = s; ptp_type = k; clock = q.clock; port = q.port; sequence = q.sequence };
    })
    []

-- the residence of so many nanoseconds
abbrev pub stayed : ℕ → Residence
stayed n = Ok (n * 65536)

-- a call with an output of 40 zeros
abbrev pub spare : List ℕ
spare = replicate 40 0

abbrev pub handed_in : Mode → List ℕ → Residence → Call
handed_in m s r = record { mode = m; message = s; residence = r; output = spare }

-- a record of an identity, with a residence of 7 units
abbrev pub record_of : Identity → ℕ → Record
record_of q w = record { kind = q.kind; clock = q.clock; port = q.port; sequence = q.sequence; residence = 7; wait = w }

-- a new table, and a table's records of k identities, from sequence n on
abbrev pub new : Slots
new = replicate 16 zeros

abbrev pub records_from : ℕ → ℕ → Slots
records_from zero n = []
records_from (suc k) n = record_of (numbered n) 3 ∷ records_from k (suc n)

-- what a run tells and answers, octets aside
abbrev answered : Result Reply → Result (Answer Word)
answered (told n) = told n
answered (replied r) = replied r.answer
answered taken_over = taken_over

abbrev pub answers : List (Result Reply) → List (Result (Answer Word))
answers rs = map answered rs

-- what a node answered to the two: a word, or a number
abbrev pub answers_of : Stop → Option (Answer Word) × Option (Answer Word)
answers_of n = (first_answer n, second_answer n)

abbrev pub said : Word → Option (Answer Word)
said w = some (value w)

abbrev pub refused_with : ℕ → Option (Answer Word)
refused_with a = some (refused a)

-- what comes of a call, from what computing shows
abbrev pub after : Word → List ℕ → List ℕ → Reply
after w message output = record { answer = value w; message = message; output = output }

module _ (n : Stop) (k : ℕ) (c : Call) where
  visit_of : (r : Reply) → get_elem? n.events k ≡ some (call c) → c.mode ≡ n.mode → ReplyAt n k r → Visit n k c.message r
  visit_of r here mode outcome = record { handed = c; here = here; mode = mode; octets = refl; outcome = outcome }

  pub visit :
      (w : Word) (m out : List ℕ)
      → get_elem? n.events k ≡ some (call c)
      → c.mode ≡ n.mode
      → ReplyAt n k (after w m out)
      → Visit n k c.message (after w m out)
  visit w m out = visit_of (after w m out)

  -- and of one that is refused
  pub refusing :
      (a : ℕ)
      → get_elem? n.events k ≡ some (call c)
      → c.mode ≡ n.mode
      → ReplyAt n k (as_it_came c (refused a))
      → Visit n k c.message (as_it_came c (refused a))
  refusing a = visit_of (as_it_came c (refused a))

-- answers that are no refusal, and one that is not "created"
pub unrefused : (n : Stop) → is_refused (first_answer n) ≡ false → is_refused (second_answer n) ≡ false → Unrefused n
unrefused n f g = (not_refused f, not_refused g)

pub first_halves : (ns : List Stop) → Every Unrefused ns → Every FirstUnrefused ns
first_halves ns h = every_map Unrefused FirstUnrefused (λ n u. u.0) ns h

pub not_created : {o : Option (Answer Word)} → says created o ≡ false → o ≡ some (value created) → ⊥
not_created f e = true≢false (sym (ap (says created) e) ∙ f)

-- a Sync or a Delay_Req that waits, and its second message, at their places of a node with no other call of the identity, from what
-- computing shows
pub waits :
    (q : Identity) (n : Stop) (u i j : ℕ) (c d : Call)
    → Apart q n
    → n.first_place ≡ i
    → n.second_place ≡ some j
    → i < j
    → (get_elem? n.events i ≡ some (call c)) × (c.mode ≡ two_step) × (kind_of c.message ≡ first_of q.kind q) × (accepted_of c.residence ≡ value u)
    → ReplyAt n i (as_it_came c (value waiting))
    → (get_elem? n.events j ≡ some (call d)) × (d.mode ≡ two_step) × (kind_of d.message ≡ second_of q.kind q)
    → Waiting n.table n.events q u i j d
waits q n u i j c d alone at_i at_j less first outcome second =
    record {
      handed = c;
      here = first.0;
      at_two_step = first.1;
      is_first = first.2;
      units = first.3;
      outcome = outcome;
      then = less;
      there = second.0;
      two_step_too = second.1;
      is_second = second.2;
      between = λ k x a b e w. neither k a b (alone.others k x e w);
    }
  where
    neither : (k : ℕ) → i < k → k < j → (k ≡ n.first_place) ⊎ (some k ≡ n.second_place) → ⊥
    neither k a b (inl e) = omega (arith, at_i)
    neither k a b (inr e) = let f : k ≡ j = cc in omega arith

-- what holds of each element of a list and its place
abbrev pub Each : {A : Type 0} → (ℕ → A → Type 0) → List A → Type 0
Each P [] = Unit {0}
Each P (x ∷ xs) = P 0 x × Each (λ k. P (suc k)) xs

pub each : {A : Type 0} (P : ℕ → A → Type 0) (xs : List A) → Each P xs → (k : ℕ) (x : A) → get_elem? xs k ≡ some x → P k x
each P [] h k x e = absurd (let z : ◌≡◌ {A = ℕ} 0 1 = cc in omega arith)
each P (y ∷ ys) h zero x e = let f : y ≡ x = cc in subst (P 0) f h.0
each P (y ∷ ys) h (suc k) x e = each (λ k. P (suc k)) ys h.1 k x e

-- a call of another identity, or of none
abbrev is_of : Identity → Option Identity → Bool
is_of q none = false
is_of q (some p) = same p q

pub other : {q : Identity} {A : Type 0} {o : Option Identity} → is_of q o ≡ false → o ≡ some q → A
other {q} f e = absurd (true≢false (sym (same_refl q) ∙ sym (ap (is_of q) e) ∙ f))

-- a node at whose two places alone stand calls of an identity
abbrev Placed : Identity → Stop → ℕ → Event Call → Type 0
Placed q n k tick = Unit {0}
Placed q n k switchover = Unit {0}
Placed q n k (call c) = kind_identity (kind_of c.message) ≡ some q → (k ≡ n.first_place) ⊎ (some k ≡ n.second_place)

pub apart : (q : Identity) (n : Stop) → find q n.table ≡ none → Each (Placed q n) n.events → Apart q n
apart q n free h = record { free = free; others = λ k c. each (Placed q n) n.events h k (call c) }

-- a node that gets a call on the first message, k ticks, and a call on the second
abbrev pub ticks_between : ℕ → Mode → Slots → Call → Call → Stop
ticks_between k m t c d =
    record { mode = m; table = t; events = call c ∷ replicate k tick ++ call d ∷ []; first_place = 0; second_place = some (suc k) }

pub apart_between : (q : Identity) (k : ℕ) (m : Mode) (t : Slots) (c d : Call) → find q t ≡ none → Apart q (ticks_between k m t c d)
apart_between q k m t c d free = apart q n free (λ e. inl refl, behind (λ x. Placed q n (suc x)) k (λ x. tt) (λ e. inr refl))
  where
    n : Stop
    n = ticks_between k m t c d

    behind : (P : ℕ → Event Call → Type 0) (j : ℕ) → ((x : ℕ) → P x tick) → P j (call d) → Each P (replicate j tick ++ call d ∷ [])
    behind P zero ticking last = (last, tt)
    behind P (suc j) ticking last = (ticking 0, behind (λ x. P (suc x)) j (λ x. ticking (suc x)) last)

-- ---- two orders

-- the call at a place, if there is one
abbrev pub call_in : Option (Event Call) → Option Call
call_in none = none
call_in (some tick) = none
call_in (some (call c)) = some c
call_in (some switchover) = none

is_call : (o : Option (Event Call)) (c : Call) → call_in o ≡ some c → o ≡ some (call c)
is_call none c e = absurd (none-ne-some c e)
is_call (some tick) c e = absurd (none-ne-some c e)
is_call (some (call d)) c e = ap (λ (o : Option Call). as_event o) e
  where
    as_event : Option Call → Option (Event Call)
    as_event none = none
    as_event (some d) = some (call d)
is_call (some switchover) c e = absurd (none-ne-some c e)

-- an order of the calls of another in which each stands at the place that `move` says, which is its own inverse
module _
    (this that : List (Event Call)) (move : ℕ → ℕ)
    (moved : (i : ℕ) → (call_in (get_elem? this i) ≡ call_in (get_elem? that (move i))) × (move (move i) ≡ i) × (ticks i this ≡ ticks (move i) that)) where
  pub there : (i : ℕ) (c : Call) → get_elem? this i ≡ some (call c) → get_elem? that (move i) ≡ some (call c)
  there i c e = is_call (get_elem? that (move i)) c (sym (moved i).0 ∙ ap call_in e)

  pub back : (j : ℕ) (c : Call) → get_elem? that j ≡ some (call c) → get_elem? this (move j) ≡ some (call c)
  back j c e = is_call (get_elem? this (move j)) c ((moved (move j)).0 ∙ ap (λ (k : ℕ). call_in (get_elem? that k)) (moved j).1 ∙ ap call_in e)

  abbrev pub reordered_by :
      ticks (length this) this ≡ ticks (length that) that
      → ((i j : ℕ) (c d : Call) (q : Identity)
      → get_elem? this i ≡ some (call c)
      → get_elem? this j ≡ some (call d)
      → kind_identity (kind_of c.message) ≡ some q
      → kind_identity (kind_of d.message) ≡ some q
      → i < j
      → move i < move j)
      → Reordered rules this that
  reordered_by same_ticks in_order =
      record {
        to = move;
        from = move;
        there = there;
        back = back;
        from-to = λ i c e. (moved i).1;
        to-from = λ j c e. (moved j).1;
        same_ticks = same_ticks;
        between = λ i c e. (moved i).2;
        in_order = in_order;
      }

-- no call of a run wants a slot
abbrev Roomy : ℕ → Result Reply → Type 0
Roomy k (told n) = Unit {0}
Roomy k (replied r) = r.answer ≡ refused 14 → ⊥
Roomy k taken_over = Unit {0}

pub no_want : (t : Slots) (es : List (Event Call)) → Each Roomy (run rules t es) → NoWant rules t es
no_want t es h i r = each Roomy (run rules t es) h i (replied r)

pub fine : {w : Word} → value w ≡ refused 14 → ⊥
fine e = not_both (sym e)

-- messages of octets
abbrev pub Low : ℕ → Event Call → Type 0
Low k tick = Unit {0}
Low k (call c) = Octets c.message
Low k switchover = Unit {0}
