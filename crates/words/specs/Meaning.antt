-- The words and their meaning agree: what an operation leaves in the words means what it makes of the slots and the number, so that every
-- statement about slots and numbers is one about words; and nothing else of the words changes.
use Rattle.std.specs.Prelude.{ℕ, ◌+◌, ◌*◌, ◌/◌, ◌<◌, ◌≤◌, ◌≡◌, List, length, get_or}
use Rattle.refusal.specs.Answer.{Answer, value, refused}
use Rattle.records.specs.declared.Identity.{Identity}
use Rattle.records.specs.declared.Record.{Record}
use Rattle.records.specs.Slots.{Slots, empty, emptied, identity_of, zeros}
use Rattle.records.specs.Node.{Request, nothing, add, collect, table_answer, slots_taken_over}
use Rattle.records.specs.Number.{recounted}
use Rattle.words.specs.Words.{slot_at, slots_of, number_of, words_after, tick_words, loaded_words}
use Rattle.words.specs.Answers.{left, request_on, tick_on}

-- fields of 16 and of 8 bits, as an identity and a record of the library have them
abbrev pub IdentityFits : Identity → Type 0
IdentityFits q = (q.port < 65536) × (q.sequence < 65536)

abbrev pub RecordFits : Record → Type 0
RecordFits s = IdentityFits (identity_of s) × (s.wait < 256)

abbrev pub RequestFits : Request → Type 0
RequestFits nothing = Unit {0}
RequestFits (add q u) = IdentityFits q
RequestFits (collect q) = IdentityFits q

abbrev pub TableFits : Slots → Type 0
TableFits t = (length t ≡ 16) × ((k : ℕ) → k < 16 → RecordFits (get_or t k zeros))

abbrev pub LoadFits : Answer Slots → Type 0
LoadFits (value t) = TableFits t
LoadFits (refused n) = Unit {0}

abbrev pub RequestMeans : Type 0
RequestMeans = (r : Request) (w : List ℕ) → length w ≡ 64 → RequestFits r → left (table_answer r (slots_of w)) (words_after r w) ≡ request_on r w

abbrev pub TickMeans : Type 0
TickMeans = (w : List ℕ) → length w ≡ 64 → left (value (emptied (slots_of w))) (tick_words w) ≡ tick_on w

abbrev pub LoadMeans : Type 0
LoadMeans =
    (a : Answer Slots) (w : List ℕ) → length w ≡ 64
    → LoadFits a
    → (slots_of (loaded_words w a) ≡ slots_taken_over (slots_of w) a) × (number_of (loaded_words w a) ≡ recounted (number_of w) a)

-- Words w and v afterwards. The reserved words of the head stay, and the reserved bits of word 0
pub record HeadKept (w v : List ℕ) : Type 0 where
  pub words : (j : ℕ) → 1 ≤ j → j < 16 → get_or v j 0 ≡ get_or w j 0
  pub bits : get_or v 0 0 / 256 ≡ get_or w 0 0 / 256

-- of slot k every bit stays but those of the wait
pub record SlotKept (w v : List ℕ) (k : ℕ) : Type 0 where
  pub clock : get_or v (k * 3 + 16) 0 ≡ get_or w (k * 3 + 16) 0
  pub packed : get_or v (k * 3 + 17) 0 / 256 ≡ get_or w (k * 3 + 17) 0 / 256
  pub residence : get_or v (k * 3 + 18) 0 ≡ get_or w (k * 3 + 18) 0

-- so it is with every slot that is neither emptied nor filled
abbrev pub Unchanged : List ℕ → List ℕ → Type 0
Unchanged w v = HeadKept w v × ((k : ℕ) → k < 16 → empty (slot_at v k) ≡ empty (slot_at w k) → SlotKept w v k)

abbrev pub ReservedKept : Type 0
ReservedKept =
    ((r : Request) (w : List ℕ) → length w ≡ 64 → RequestFits r → Unchanged w (words_after r w))
    × ((w : List ℕ) → length w ≡ 64 → Unchanged w (tick_words w))
    × ((a : Answer Slots) (w : List ℕ) → length w ≡ 64 → LoadFits a → HeadKept w (loaded_words w a))
