-- What remains true when calls are refused (document 02, W-213): "State and prove the sum without the premises that no call is refused,
-- that the Follow_Up comes after the Sync and that it beats the ageing". The nodes get any other calls, ticks and switchovers, as in `Demand3`.
use Rattle.std.specs.Prelude.{ℕ, ◌+◌, ◌<◌, ◌≤◌, ◌≡◌, Bool, true, false, cond, ◌||◌, ◌↔◌, ◌⊎◌, eqb, ℤ, pos, ◌+ℤ◌}
use mathlib.Core.List.{List, [], ◌∷◌, ◌++◌, Permᴰ}
use Rattle.std.proofs.Math.Option.{Option, none, some}
use Rattle.std.proofs.Math.ListN.{get_elem?}
use Rattle.refusal.specs.Answer.{Answer, value, refused}
use Rattle.scratch_pad.specs.Sum.{too_big}
use Rattle.records.specs.declared.Identity.{Identity}
use Rattle.records.specs.Node.{call}
use Rattle.records.specs.Order.{ticks}
use Rattle.rules.specs.Change.{pad_of}
use Rattle.rules.specs.Rules.{sync, delay_req, delay_resp, kind_of, two_step, Call, Word, updated, created, added, word_number}
use Rattle.rules.specs.Path.{Stop, first_answer, second_answer, FirstUnrefused, Unrefused, Apart, Every, FirstWay, SecondWay, FollowUps, residence_at}

-- the answer is this word
abbrev pub says : Word → Option (Answer Word) → Bool
says w none = false
says w (some (refused n)) = false
says w (some (value v)) = eqb (word_number v) (word_number w)

-- "updated, created or added"
abbrev pub counts : Option (Answer Word) → Bool
counts a = says updated a || says created a || says added a

-- "the nodes that answered one of the two with" one of these
abbrev pub credited : Stop → Bool
credited n = counts (first_answer n) || counts (second_answer n)

-- "the stays of exactly" those nodes, each once: what the first message was held there
abbrev pub credit_at : Stop → ℕ
credit_at n = cond (credited n) (residence_at n) 0

abbrev pub credits : List Stop → ℕ
credits [] = 0
credits (n ∷ ns) = credit_at n + credits ns

-- "some node answered the Sync with created"
abbrev pub some_created : List Stop → Bool
some_created [] = false
some_created (n ∷ ns) = says created (first_answer n) || some_created ns

-- "the two pads exceed their start by the stays of exactly the nodes that answered one of the two with updated, created or added, and S is
-- set exactly if it was at the start or some node answered the Sync with created. The other premises stay, with both final pads below
-- 2^63-1, the Follow_Up starting where it is created." They are `PathSum`'s but for `Every Unrefused path`.
abbrev pub CreditedSum : Type 0
CreditedSum =
    (q : Identity) (s : Bool) (start last : List ℕ) (path : List Stop) (first second : ℤ)
    → kind_of start ≡ sync q s
    → Every (Apart q) path
    → FirstWay start path last
    → FollowUps q s path first second
    → too_big (pad_of last) ≡ false
    → too_big second ≡ false
    → (pad_of last +ℤ second ≡ pad_of start +ℤ first +ℤ pos (credits path)) × (kind_of last ≡ sync q (s || some_created path))

-- The sum holds for a Delay_Req and its Delay_Resp too, under `DelayPathSum`'s premises but for that one.
abbrev pub DelayCreditedSum : Type 0
DelayCreditedSum =
    (q : Identity) (request arrived response returned : List ℕ) (path back : List Stop)
    → kind_of request ≡ delay_req q
    → kind_of response ≡ delay_resp q
    → Every (Apart q) path
    → FirstWay request path arrived
    → Permᴰ back path
    → SecondWay response back returned
    → too_big (pad_of arrived) ≡ false
    → too_big (pad_of returned) ≡ false
    → pad_of arrived +ℤ pad_of returned ≡ pad_of request +ℤ pad_of response +ℤ pos (credits path)

-- ---- S, and who creates

-- What is said of S needs nothing of the tables, the Follow_Up or the pads.
abbrev pub SetExactlyIf : Type 0
SetExactlyIf =
    (q : Identity) (s : Bool) (start last : List ℕ) (path : List Stop)
    → kind_of start ≡ sync q s
    → FirstWay start path last
    → kind_of last ≡ sync q (s || some_created path)

-- the node refused the first message
abbrev pub Refuses : Stop → Type 0
Refuses n = (a : ℕ) × (first_answer n ≡ some (refused a))

-- with S clear it creates nothing: if it is two-step it refuses the Sync
abbrev pub Skips : Stop → Type 0
Skips n = n.mode ≡ two_step → Refuses n

-- With S clear a node creates exactly if it is two-step, does not refuse the Sync, and every two-step node before it does: a refusal leaves
-- S clear, and the next one creates.
abbrev pub FirstToCreate : Type 0
FirstToCreate =
    (q : Identity) (start last : List ℕ) (before after : List Stop) (n : Stop)
    → kind_of start ≡ sync q false
    → FirstWay start (before ++ n ∷ after) last
    → (first_answer n ≡ some (value created)) ↔ ((n.mode ≡ two_step) × FirstUnrefused n × Every Skips before)

-- ---- what a refusal costs

-- the Sync comes to the node with S clear
abbrev pub ComesClear : Identity → Stop → Type 0
ComesClear q n = (c : Call) × (get_elem? n.events n.first_place ≡ some (call c)) × (kind_of c.message ≡ sync q false)

-- a number that the first message is refused with: 9 or 10, or, by a two-step node, 12 for a Sync with S clear and 14 for any other
abbrev pub FirstNumber : Identity → Stop → ℕ → Type 0
FirstNumber q n a = (a ≡ 9) ⊎ (a ≡ 10) ⊎ ((n.mode ≡ two_step) × (((a ≡ 12) × ComesClear q n) ⊎ ((a ≡ 14) × (ComesClear q n → ⊥))))

-- a second message at place k has missed the first: that was refused, or has yet to come, or came three ticks before or more
abbrev pub Missed : Stop → ℕ → Type 0
Missed n k = Refuses n ⊎ (k < n.first_place) ⊎ (ticks n.first_place n.events + 3 ≤ ticks k n.events)

pub record Cost (q : Identity) (n : Stop) : Type 0 where
  -- the node's residence: it is credited exactly if the node refused neither. So the sum over a path where no call is refused follows
  -- (proofs/PathSums, `path_sum_follows`).
  pub credit : (credited n ≡ true) ↔ Unrefused n
  -- the first message is refused with these numbers alone,
  pub first_with : (a : ℕ) → first_answer n ≡ some (refused a) → FirstNumber q n a
  -- the second by a two-step node alone, with 15, and exactly if it has missed the first
  pub second_with : (a : ℕ) → second_answer n ≡ some (refused a) → (n.mode ≡ two_step) × (a ≡ 15)
  pub second_where : (k : ℕ) → n.mode ≡ two_step → n.second_place ≡ some k → (second_answer n ≡ some (refused 15)) ↔ Missed n k

-- This holds at every node of a path of a Sync and its Follow_Up, whatever the pads,
abbrev pub LostWhereRefused : Type 0
LostWhereRefused =
    (q : Identity) (s : Bool) (start last : List ℕ) (path : List Stop) (first second : ℤ)
    → kind_of start ≡ sync q s
    → Every (Apart q) path
    → FirstWay start path last
    → FollowUps q s path first second
    → Every (Cost q) path

-- and of a Delay_Req and its Delay_Resp
abbrev pub DelayLostWhereRefused : Type 0
DelayLostWhereRefused =
    (q : Identity) (request arrived response returned : List ℕ) (path back : List Stop)
    → kind_of request ≡ delay_req q
    → kind_of response ≡ delay_resp q
    → Every (Apart q) path
    → FirstWay request path arrived
    → Permᴰ back path
    → SecondWay response back returned
    → Every (Cost q) path
