-- What a message carries is the same at the end of a path as at its start (`ShownAsSent`): no call changes an octet from 36 on.
-- Assumes nothing.
use Prim.Native.Nat.{ℕ, ◌+◌, ◌%◌}
use mathlib.Core.Path.{◌≡◌, refl, sym, ap, ◌∙◌}
use mathlib.Core.Bool.{Bool, true, false}
use mathlib.Core.List.{List, [], ◌∷◌}
use mathlib.Core.Option.{some}
use native.Mathlib.Omega.{arith}
use lib.Dec.{ltb}
use lib.IntN.{ℤ}
use lib.ListN.{length, get_or, take, drop, drop_of_length-le, length-take}
use Rattle.octets.specs.Octets.{signed_octets}
use Rattle.octets.proofs.Puts.{drop_behind}
use Rattle.refusal.specs.Answer.{Answer, value, refused}
use Rattle.residence.specs.Residence.{accepted_of}
use Rattle.message.specs.Read.{carried_of}
use Rattle.message.proofs.Sound.{SoundPtp}
use Rattle.scratch_pad.specs.Sum.{raised}
use Rattle.records.specs.declared.Identity.{Identity}
use Rattle.egress.specs.Join.{or_else, shown_by}
use Rattle.egress.proofs.JoinedPair.{pair, whole}
use Rattle.rules.specs.Change.{pad_of, with_pad, with_two_step}
use Rattle.rules.specs.Rules.{Kind, sync, follow_up, delay_req, delay_resp, timed, untimed, unreadable, kind_of, kind_identity, Mode, one_step, two_step, Call, Reply, update, one_step_reply, create_in, create, keep, gather, two_step_reply, reply_by}
use Rattle.rules.specs.Path.{Stop, Visit, FirstWay, SecondWay, FollowUps, existing, born, never}
use Rattle.rules.proofs.Bearing.{sound_ptp}
use Rattle.rules.proofs.Crossing.{asked, came}
use Rattle.correction.specs.Path.{arrived, carried_with, ShownAsSent}

-- what stands from octet 36 on
abbrev behind : List ℕ → List ℕ
behind s = drop 36 s

-- no call changes it: the pad is octets 4 to 11, and S is in octet 20
pad_before : (s : List ℕ) (z : ℤ) → behind (with_pad s z) ≡ behind s
pad_before s z = drop_behind s (signed_octets z) 4 36 (omega arith)

flag_before : (s : List ℕ) → behind (with_two_step s) ≡ behind s
flag_before s = drop_behind s ((get_or s 20 0 % 128 + 128) ∷ []) 20 36 (omega arith)

module _ (c : Call) where
  abbrev Kept : Reply → Type 0
  Kept r = behind r.message ≡ behind c.message

  updating : (a : Answer ℕ) → Kept (update c a)
  updating (value u) = pad_before c.message (raised (pad_of c.message) u)
  updating (refused n) = refl

  creating_in : (u : ℕ) (b : Bool) → Kept (create_in c u b)
  creating_in u true = refl
  creating_in u false = flag_before c.message

  creating : (a : Answer ℕ) → Kept (create c a)
  creating (value u) = creating_in u (ltb (length c.output) 36)
  creating (refused n) = refl

  keeping : (a table : Answer ℕ) → Kept (keep c a table)
  keeping (value u) (value x) = refl
  keeping (value u) (refused n) = refl
  keeping (refused n) table = refl

  gathering : (table : Answer ℕ) → Kept (gather c table)
  gathering (value u) = pad_before c.message (raised (pad_of c.message) u)
  gathering (refused n) = refl

  at_one_step : (k : Kind) → Kept (one_step_reply c k)
  at_one_step (sync q s) = updating (accepted_of c.residence)
  at_one_step (delay_req q) = updating (accepted_of c.residence)
  at_one_step timed = updating (accepted_of c.residence)
  at_one_step (follow_up q) = refl
  at_one_step (delay_resp q) = refl
  at_one_step untimed = refl
  at_one_step (unreadable n) = refl

  at_two_step : (table : Answer ℕ) (k : Kind) → Kept (two_step_reply c table k)
  at_two_step table (sync q false) = creating (accepted_of c.residence)
  at_two_step table (sync q true) = keeping (accepted_of c.residence) table
  at_two_step table (delay_req q) = keeping (accepted_of c.residence) table
  at_two_step table (follow_up q) = gathering table
  at_two_step table (delay_resp q) = gathering table
  at_two_step table timed = refl
  at_two_step table untimed = refl
  at_two_step table (unreadable n) = refl

  in_mode : (m : Mode) (table : Answer ℕ) → Kept (reply_by m c table (kind_of c.message))
  in_mode one_step table = at_one_step (kind_of c.message)
  in_mode two_step table = at_two_step table (kind_of c.message)

visited : (n : Stop) (k : ℕ) (m : List ℕ) (r : Reply) → Visit n k m r → behind r.message ≡ behind m
visited n k m r v =
    ap (λ (y : Reply). behind y.message) (came n k m r v)
    ∙ in_mode v.handed v.handed.mode (asked n k m r v)
    ∙ ap behind v.octets

-- so it is along the way of either message
along : {s last : List ℕ} {ns : List Stop} → FirstWay s ns last → behind last ≡ behind s
along FirstWay.done = refl
along (FirstWay.cross {n} {s = s} {r = r} v w) = along w ∙ visited n n.first_place s r v

along_second : {f last : List ℕ} {ns : List Stop} → SecondWay f ns last → behind last ≡ behind f
along_second SecondWay.done = refl
along_second (SecondWay.cross {n} {f = f} {r = r} k e v w) = along_second w ∙ visited n k f r v

-- a message that can be read, of types 2 to 4, carries what stands there
carried : (s : List ℕ) → SoundPtp s → carried_of s ≡ behind s
carried s h = ap (λ (n : ℕ). drop n s) (whole s h).0

sent_so : (s : List ℕ) (q : Identity) → kind_identity (kind_of s) ≡ some q → carried_of s ≡ behind s
sent_so s q e = carried s (sound_ptp s q e)

-- the Follow_Up that was joined carries what it was sent with, and a created one nothing
same_carried : {q : Identity} {s : Bool} {path : List Stop} {first second : ℤ} (way : FollowUps q s path first second) → SoundPtp (arrived way) → carried_of (arrived way) ≡ carried_with way
same_carried {q} (existing {f = f} {last = last} e p w) h = carried last h ∙ along_second w ∙ sym (sent_so f q (ap kind_identity e))
same_carried (born before n {r = r} {last = last} us u at a p w) h =
    carried last h ∙ along_second w ∙ drop_of_length-le (take 36 r.output) {i = 36} (simp length-take (omega arith))
same_carried (never all) h = refl

pub shown_as_sent : ShownAsSent
shown_as_sent q s start last path first second total e w way j =
    let both = pair last (arrived way) total j in
    let f = same_carried way both.follow_up in
    let own = carried last both.sync ∙ along w ∙ sym (sent_so start q (ap kind_identity e)) in
    ap (shown_by last (arrived way)) j ∙ (λ i. or_else (f i) (own i))

-- the final pad is the Follow_Up's, and 0 where there is none
pub arrived_pad : {q : Identity} {s : Bool} {path : List Stop} {first second : ℤ} (way : FollowUps q s path first second) → second ≡ pad_of (arrived way)
arrived_pad (existing e p w) = refl
arrived_pad (born before n us u at a p w) = refl
arrived_pad (never all) = refl
