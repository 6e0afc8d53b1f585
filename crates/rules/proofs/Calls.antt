-- What comes of a call on the first or the second message of a pair, in each mode, refused or not.
-- Assumes nothing.
use Prim.Native.Nat.{ℕ, ◌<◌, ◌^◌}
use mathlib.Core.Path.{◌≡◌, refl, sym, ap, ◌∙◌}
use mathlib.Core.Bool.{Bool, true, false, not, cond, ◌||◌}
use mathlib.Core.List.{List, ◌++◌}
use mathlib.Core.Logic.{◌⊎◌, inl, inr}
use mathlib.Core.Option.{Option, some}
use native.Mathlib.Omega.{arith}
use lib.Dec.{ltb}
use lib.IntN.{pos}
use lib.ListN.{length, take, drop}
use lib.Seq.{take_at}
use Rattle.octets.specs.Octets.{number}
use Rattle.refusal.specs.Answer.{Answer, value, refused}
use Rattle.refusal.proofs.Answers.{not_both, Numbered}
use Rattle.residence.specs.Residence.{Residence}
use Rattle.residence.specs.Residence.{accepted_of}
use Rattle.residence.proofs.Limit.{below_limit, NineOrTen, nine_or_ten}
use Rattle.message.proofs.Sound.{SoundPtp}
use Rattle.records.specs.declared.RecordKind.{RecordKind}
use Rattle.records.specs.declared.RecordKind.TheVariants.{Sync, Delay}
use Rattle.records.specs.declared.Identity.{Identity}
use Rattle.records.specs.Node.{collect}
use Rattle.scratch_pad.specs.Sum.{raised}
use Rattle.scratch_pad.proofs.Held.{raised_none, read_range}
use Rattle.rules.specs.Change.{pad_of, with_two_step, follow_up_of}
use Rattle.rules.specs.Rules.{Kind, sync, follow_up, delay_req, first_of, second_of, kind_of, kind_identity, Mode, one_step, two_step, Call, Word, updated, passed, created, waiting, added, Reply, as_it_came, add_to_pad, update, one_step_reply, create_in, create, keep, gather, two_step_reply, reply_by, keep_request, two_step_request, request_by, rules}
use Rattle.rules.specs.Path.{First, of_sync, of_delay, units_of}
use Rattle.rules.specs.Credited.{says}
use Rattle.rules.proofs.Bearing.{Bears, sync_kind, follow_up_kind, sound_ptp, kind_is_sync}
use Rattle.rules.proofs.Changes.{with_pad_kind, with_two_step-Bears, with_two_step_pad, follow_up_length, follow_up_pad, follow_up_bears}
use Rattle.rules.proofs.Sums.{sum_in_range, sums_are_pads}

-- a pad that was added to, of a message that stays of its kind
module _ (c : Call) (w : Word) (u : ℕ) (m : SoundPtp c.message) where
  pub added_pad : pad_of (add_to_pad c w u).message ≡ raised (pad_of c.message) u
  added_pad = (sums_are_pads c w u (omega (arith, m.long))).1

  pub added_kind : kind_of (add_to_pad c w u).message ≡ kind_of c.message
  added_kind = let s = c.message in with_pad_kind s (raised (pad_of s) u) (sum_in_range s u) m

-- and one that was not
pub same_pad : (s : List ℕ) → pad_of s ≡ raised (pad_of s) 0
same_pad s = sym (raised_none (pad_of s) (read_range (number 8 s 4)))

-- the reply and the request of a call whose mode and kind are known
pub reply_is : (c : Call) (table : Answer ℕ) (m : Mode) (k : Kind) → c.mode ≡ m → kind_of c.message ≡ k → rules.reply c table ≡ reply_by m c table k
reply_is c table m k o e = ap (λ (x : Mode). reply_by x c table (kind_of c.message)) o ∙ ap (λ (x : Kind). reply_by m c table x) e

pub request_is : (c : Call) (m : Mode) (k : Kind) → c.mode ≡ m → kind_of c.message ≡ k → rules.request c ≡ request_by m c.residence k
request_is c m k o e = ap (λ (x : Mode). request_by x c.residence (kind_of c.message)) o ∙ ap (λ (x : Kind). request_by m c.residence x) e

-- the first messages
abbrev pub first_of_lem : (x : RecordKind) (q : Identity) → First q (first_of x q)
first_of_lem Sync q = of_sync true
first_of_lem Delay q = of_delay

first_identity : {q : Identity} {k : Kind} → First q k → kind_identity k ≡ some q
first_identity (of_sync b) = refl
first_identity of_delay = refl

second_identity : (x : RecordKind) (q : Identity) → kind_identity (second_of x q) ≡ some q
second_identity Sync q = refl
second_identity Delay q = refl

-- what the rules are for them
first_updates : {q : Identity} {k : Kind} (c : Call) → First q k → one_step_reply c k ≡ update c (accepted_of c.residence)
first_updates c (of_sync b) = refl
first_updates c of_delay = refl

pub first_keeps : (c : Call) (table : Answer ℕ) (x : RecordKind) (q : Identity) → two_step_reply c table (first_of x q) ≡ keep c (accepted_of c.residence) table
first_keeps c table Sync q = refl
first_keeps c table Delay q = refl

pub first_asks : (r : Residence) (x : RecordKind) (q : Identity) → two_step_request r (first_of x q) ≡ keep_request q (accepted_of r)
first_asks r Sync q = refl
first_asks r Delay q = refl

second_passes : (c : Call) (x : RecordKind) (q : Identity) → one_step_reply c (second_of x q) ≡ as_it_came c (value passed)
second_passes c Sync q = refl
second_passes c Delay q = refl

pub second_gathers : (c : Call) (table : Answer ℕ) (x : RecordKind) (q : Identity) → two_step_reply c table (second_of x q) ≡ gather c table
second_gathers c table Sync q = refl
second_gathers c table Delay q = refl

pub second_asks : (r : Residence) (x : RecordKind) (q : Identity) → two_step_request r (second_of x q) ≡ collect q
second_asks r Sync q = refl
second_asks r Delay q = refl

-- a residence where the answer is this word, and else nothing
abbrev pub when : Word → Option (Answer Word) → ℕ → ℕ
when w o u = cond (says w o) u 0

module _ {q : Identity} where
  -- a first message is a Sync with S clear
  abbrev pub clear : {k : Kind} → First q k → Bool
  clear (of_sync s) = not s
  clear of_delay = false

  -- its kind after a node with this answer: S is set where the node creates
  abbrev pub next : {k : Kind} → First q k → Option (Answer Word) → Kind
  next (of_sync s) o = sync q (s || says created o)
  next of_delay o = delay_req q

  abbrev pub next_first : {k : Kind} (f : First q k) (o : Option (Answer Word)) → First q (next f o)
  next_first (of_sync s) o = of_sync (s || says created o)
  next_first of_delay o = of_delay

  next_same : {k : Kind} (f : First q k) (o : Option (Answer Word)) → says created o ≡ false → next f o ≡ k
  next_same (of_sync true) o e = refl
  next_same (of_sync false) o e = ap (sync q) e
  next_same of_delay o e = refl

-- where S is set, or a Delay_Req comes, it stays so
pub set_clear : (x : RecordKind) (q : Identity) → clear (first_of_lem x q) ≡ false
set_clear Sync q = refl
set_clear Delay q = refl

pub set_next : (x : RecordKind) (q : Identity) (o : Option (Answer Word)) → next (first_of_lem x q) o ≡ first_of x q
set_next Sync q o = refl
set_next Delay q o = refl

-- what a node may answer to a first message, by its mode, and whether that is a Sync with S clear
pub data FirstSays : Mode → Bool → Answer Word → Type 0 where
  refused_first : (m : Mode) (b : Bool) (n : ℕ) → FirstSays m b (refused n)
  updated_first : (b : Bool) → FirstSays one_step b (value updated)
  created_first : FirstSays two_step true (value created)
  waiting_first : FirstSays two_step false (value waiting)

-- and to a second one
pub data SecondSays : Mode → Answer Word → Type 0 where
  refused_second : (n : ℕ) → SecondSays two_step (refused n)
  passed_second : SecondSays one_step (value passed)
  added_second : SecondSays two_step (value added)

-- the numbers of a first message: the residence's, and at a two-step node 12 where that is a Sync with S clear, or else the table's
abbrev pub OwnNumber : Answer ℕ → Bool → ℕ → Type 0
OwnNumber table true i = i ≡ 12
OwnNumber table false i = table ≡ refused i

abbrev pub FirstGiven : Answer ℕ → Mode → Bool → ℕ → Type 0
FirstGiven table m b i = NineOrTen i ⊎ ((m ≡ two_step) × OwnNumber table b i)

-- and of a second one: the table's at a two-step node
abbrev pub SecondGiven : Answer ℕ → Mode → ℕ → Type 0
SecondGiven table m i = (m ≡ two_step) × (table ≡ refused i)

module _ (c : Call) (table : Answer ℕ) (q : Identity) where
  pub record FirstCall {k : Kind} (m : Mode) (f : First q k) (r : Reply) : Type 0 where
    pub says_it : FirstSays m (clear f) r.answer
    pub number : Numbered (FirstGiven table m (clear f)) r.answer
    pub kind : kind_of r.message ≡ next f (some r.answer)
    pub pad : pad_of r.message ≡ raised (pad_of c.message) (when updated (some r.answer) (units_of (accepted_of c.residence)))

  -- a call that leaves the message as it came
  left :
      {k : Kind} (m : Mode) (f : First q k) (a : Answer Word) → kind_of c.message ≡ k → FirstSays m (clear f) a
      → Numbered (FirstGiven table m (clear f)) a → says created (some a) ≡ false → says updated (some a) ≡ false → FirstCall m f (as_it_came c a)
  left m f a e s i n u =
      record {
        says_it = s;
        number = i;
        kind = e ∙ sym (next_same f (some a) n);
        pad = same_pad c.message ∙ ap (λ (b : Bool). raised (pad_of c.message) (cond b (units_of (accepted_of c.residence)) 0)) (sym u);
      }

  not_taken :
      {k : Kind} (m : Mode) (f : First q k) (n : ℕ) → kind_of c.message ≡ k → FirstGiven table m (clear f) n → FirstCall m f (as_it_came c (refused n))
  not_taken m f n e i = left m f (refused n) e (refused_first m (clear f) n) i refl refl

  not_measured :
      {k : Kind} (m : Mode) (f : First q k) (n : ℕ) → kind_of c.message ≡ k → accepted_of c.residence ≡ refused n
      → FirstCall m f (as_it_came c (refused n))
  not_measured m f n e p = not_taken m f n e (inl (nine_or_ten c.residence n p))

  -- one-step: the first message is added to
  first_one : {k : Kind} (f : First q k) → c.mode ≡ one_step → kind_of c.message ≡ k → FirstCall one_step f (rules.reply c table)
  first_one {k} f o e = rw is (go (accepted_of c.residence) refl)
    where
      is : rules.reply c table ≡ update c (accepted_of c.residence)
      is = reply_is c table one_step k o e ∙ first_updates c f

      m : SoundPtp c.message
      m = sound_ptp c.message q (ap kind_identity e ∙ first_identity f)

      go : (a : Answer ℕ) → accepted_of c.residence ≡ a → FirstCall one_step f (update c a)
      go (refused n) p = not_measured one_step f n e p
      go (value u) p =
          record {
            says_it = updated_first (clear f);
            number = tt;
            kind = added_kind c updated u m ∙ e ∙ sym (next_same f (some (value updated)) refl);
            pad = added_pad c updated u m ∙ ap (λ (x : Answer ℕ). raised (pad_of c.message) (units_of x)) (sym p);
          }

  -- two-step, S set, or a Delay_Req: the message stays
  first_two : (x : RecordKind) → c.mode ≡ two_step → kind_of c.message ≡ first_of x q → FirstCall two_step (first_of_lem x q) (rules.reply c table)
  first_two x o e = rw (reply_is c table two_step (first_of x q) o e ∙ first_keeps c table x q) (go (accepted_of c.residence) table refl refl)
    where
      waits : (x : RecordKind) → FirstSays two_step (clear (first_of_lem x q)) (value waiting)
      waits Sync = waiting_first
      waits Delay = waiting_first

      tables : (x : RecordKind) (n : ℕ) → table ≡ refused n → OwnNumber table (clear (first_of_lem x q)) n
      tables Sync n p = p
      tables Delay n p = p

      go : (a t : Answer ℕ) → accepted_of c.residence ≡ a → table ≡ t → FirstCall two_step (first_of_lem x q) (keep c a t)
      go (refused n) t p r = not_measured two_step (first_of_lem x q) n e p
      go (value u) (refused n) p r = not_taken two_step (first_of_lem x q) n e (inr (refl, tables x n r))
      go (value u) (value v) p r = left two_step (first_of_lem x q) (value waiting) e (waits x) tt refl refl

  -- two-step, S clear: S is set
  sync_clear : c.mode ≡ two_step → kind_of c.message ≡ sync q false → FirstCall two_step (of_sync false) (rules.reply c table)
  sync_clear o e = rw (reply_is c table two_step (sync q false) o e) (go (accepted_of c.residence) refl)
    where
      m : Bears c.message 0 false q
      m = kind_is_sync c.message false q e

      room : (u : ℕ) (t : Bool) → FirstCall two_step (of_sync false) (create_in c u t)
      room u true = not_taken two_step (of_sync false) 12 e (inr (refl, refl))
      room u false =
          record {
            says_it = created_first;
            number = tt;
            kind = sync_kind (with_two_step c.message) true q (with_two_step-Bears c.message 0 false q m);
            pad = with_two_step_pad c.message 0 false q m ∙ same_pad c.message;
          }

      go : (a : Answer ℕ) → accepted_of c.residence ≡ a → FirstCall two_step (of_sync false) (create c a)
      go (refused n) p = not_measured two_step (of_sync false) n e p
      go (value u) p = room u (ltb (length c.output) 36)

  pub first_call : {k : Kind} (f : First q k) (m : Mode) → c.mode ≡ m → kind_of c.message ≡ k → FirstCall m f (rules.reply c table)
  first_call f one_step o e = first_one f o e
  first_call (of_sync true) two_step o e = first_two Sync o e
  first_call (of_sync false) two_step o e = sync_clear o e
  first_call of_delay two_step o e = first_two Delay o e

  -- the Follow_Up that leaves a node which created it: its pad is the residence, which is far from the largest pad
  pub record Created (r : Reply) : Type 0 where
    pub kind : kind_of (take 36 r.output) ≡ follow_up q
    pub pad : pad_of (take 36 r.output) ≡ pos (units_of (accepted_of c.residence))
    pub small : units_of (accepted_of c.residence) < 2 ^ 62

  pub sync-created :
      c.mode ≡ two_step → kind_of c.message ≡ sync q false → (rules.reply c table).answer ≡ value created → Created (rules.reply c table)
  sync-created o e w = rw is (go (accepted_of c.residence) refl (rw is at w))
    where
      is : rules.reply c table ≡ create c (accepted_of c.residence)
      is = reply_is c table two_step (sync q false) o e

      m : Bears c.message 0 false q
      m = kind_is_sync c.message false q e

      room : (u : ℕ) → accepted_of c.residence ≡ value u → (t : Bool) → (create_in c u t).answer ≡ value created → Created (create_in c u t)
      room u p true h = absurd (not_both h)
      room u p false h =
          let s = c.message in
          let low : u < 2 ^ 62 = omega (arith, below_limit c.residence u p) in
          let small : u < 2 ^ 63 = omega arith in
          let out = follow_up_of s u ++ drop 36 c.output in
          let first : take 36 out ≡ follow_up_of s u = take_at (follow_up_of s u) (drop 36 c.output) 36 (follow_up_length s 0 false q m u small) in
          let units : u ≡ units_of (accepted_of c.residence) = ap units_of (sym p) in
          record {
            kind = ap kind_of first ∙ follow_up_kind (follow_up_of s u) true q (follow_up_bears s 0 false q m u small);
            pad = ap pad_of first ∙ follow_up_pad s 0 false q m u small ∙ ap pos units;
            small = omega (arith, units);
          }

      go : (a : Answer ℕ) → accepted_of c.residence ≡ a → (create c a).answer ≡ value created → Created (create c a)
      go (refused n) p h = absurd (not_both h)
      go (value u) p h = room u p (ltb (length c.output) 36) h

  -- a second message, where a record that is found has the residence u
  pub record SecondCall (u : ℕ) (m : Mode) (x : RecordKind) (r : Reply) : Type 0 where
    pub says_it : SecondSays m r.answer
    pub number : Numbered (SecondGiven table m) r.answer
    pub kind : kind_of r.message ≡ second_of x q
    pub pad : pad_of r.message ≡ raised (pad_of c.message) (when added (some r.answer) u)

  pub second_call :
      (u : ℕ) (x : RecordKind) (m : Mode) → c.mode ≡ m → kind_of c.message ≡ second_of x q
      → (m ≡ two_step → (v : ℕ) → table ≡ value v → v ≡ u)
      → SecondCall u m x (rules.reply c table)
  second_call u x one_step o e found =
      rw (reply_is c table one_step (second_of x q) o e ∙ second_passes c x q) (record { says_it = passed_second; number = tt; kind = e; pad = same_pad c.message })
  second_call u x two_step o e found = rw (reply_is c table two_step (second_of x q) o e ∙ second_gathers c table x q) (go table refl)
    where
      m : SoundPtp c.message
      m = sound_ptp c.message q (ap kind_identity e ∙ second_identity x q)

      go : (t : Answer ℕ) → table ≡ t → SecondCall u two_step x (gather c t)
      go (refused n) p = record { says_it = refused_second n; number = (refl, p); kind = e; pad = same_pad c.message }
      go (value v) p =
          record {
            says_it = added_second;
            number = tt;
            kind = added_kind c added v m ∙ e;
            pad = added_pad c added v m ∙ ap (raised (pad_of c.message)) (found refl v p);
          }
