-- A table in 64 words of 64 bits, 512 octets: 16 words for the head, then three for each of the 16 slots. Every value of every word is
-- good, and means a table; all zeros is a new one.
--
--   word 0         bits 0 to 7 the number of records (document 02, W-206); the rest is reserved
--   words 1 to 15  reserved
--   word 16 + 3k   slot k: the clock identity
--   word 17 + 3k   slot k, packed: bits 0 to 7 the wait, 16 to 31 the sequence, 32 to 47 the port number, 48 the kind; the rest is reserved
--   word 18 + 3k   slot k: the residence
use Rattle.std.specs.Prelude.{ℕ, zero, suc, ◌+◌, ◌*◌, ◌-◌, ◌/◌, ◌%◌, List, [], ◌∷◌, get_or, set}
use Rattle.refusal.specs.Answer.{Answer, value, refused}
use Rattle.records.specs.declared.RecordKind.{RecordKind}
use Rattle.records.specs.declared.RecordKind.TheVariants.{Sync, Delay}
use Rattle.records.specs.declared.Identity.{Identity}
use Rattle.records.specs.declared.Record.{Record}
use Rattle.records.specs.Slots.{Slots, kind_number, holds, empty, lowest, fresh, identity_of, emptied, records_in, zeros}
use Rattle.records.specs.Node.{Request, nothing, add, collect, table_answer}
use Rattle.records.specs.Number.{one_more, fewer}

-- What the words mean. The kind's bit: 0 Sync, 1 Delay
abbrev pub kind_bit : ℕ → RecordKind
kind_bit zero = Sync
kind_bit (suc n) = Delay

-- the slot in three words: clock identity, packed word, residence
unfoldable pub decoded : ℕ → ℕ → ℕ → Record
decoded c b u =
    record {
      kind = kind_bit (b / 281474976710656 % 2);
      clock = c;
      port = b / 4294967296 % 65536;
      sequence = b / 65536 % 65536;
      residence = u;
      wait = b % 256;
    }

abbrev pub slot_at : List ℕ → ℕ → Record
slot_at w k = decoded (get_or w (k * 3 + 16) 0) (get_or w (k * 3 + 17) 0) (get_or w (k * 3 + 18) 0)

-- n slots from slot k on
abbrev pub slots_from : List ℕ → ℕ → ℕ → Slots
slots_from w k zero = []
slots_from w k (suc n) = slot_at w k ∷ slots_from w (suc k) n

unfoldable pub slots_of : List ℕ → Slots
slots_of w = slots_from w 0 16

unfoldable pub number_of : List ℕ → ℕ
number_of w = get_or w 0 0 % 256

-- What is written. Kind, port number and sequence in one number, as a packed word has them
unfoldable pub key_of : Identity → ℕ
key_of q = (kind_number q.kind * 65536 + q.port) * 65536 + q.sequence

unfoldable pub packed_of : Record → ℕ
packed_of s = key_of (identity_of s) * 65536 + s.wait

-- slot k with these three words: reserved bits are not kept in a slot that is filled or emptied
unfoldable pub put_slot : List ℕ → ℕ → ℕ → ℕ → ℕ → List ℕ
put_slot w k c b u = set (set (set w (k * 3 + 16) c) (k * 3 + 17) b) (k * 3 + 18) u

abbrev pub put_record : List ℕ → ℕ → Record → List ℕ
put_record w k s = put_slot w k s.clock (packed_of s) s.residence

-- "a slot emptied by an operation is all zeros" (document 01): its three words whole
abbrev pub empty_slot : List ℕ → ℕ → List ℕ
empty_slot w k = put_slot w k 0 0 0

-- another number: the other bits of its word stay
unfoldable pub with_number : List ℕ → ℕ → List ℕ
with_number w n = set w 0 (get_or w 0 0 / 256 * 256 + n)

-- The words after a request, by the table's answer: a refusal leaves every word as it came
abbrev pub added_words : Identity → ℕ → List ℕ → Answer ℕ → List ℕ
added_words q u w (value n) = with_number (put_record w (lowest empty (slots_of w)) (fresh q u)) (one_more (number_of w))
added_words q u w (refused n) = w

abbrev pub collected_words : Identity → List ℕ → Answer ℕ → List ℕ
collected_words q w (value n) = with_number (empty_slot w (lowest (holds q) (slots_of w))) (fewer 1 (number_of w))
collected_words q w (refused n) = w

abbrev pub words_after : Request → List ℕ → List ℕ
words_after nothing w = w
words_after (add q u) w = added_words q u w (table_answer (add q u) (slots_of w))
words_after (collect q) w = collected_words q w (table_answer (collect q) (slots_of w))

-- A tick at slot k with this wait: the wait is the low end of the packed word, so that one less of the word is one less of the wait
abbrev pub aged_words : ℕ → List ℕ → ℕ → List ℕ
aged_words zero w k = w
aged_words (suc zero) w k = empty_slot w k
aged_words (suc (suc n)) w k = set w (k * 3 + 17) (get_or w (k * 3 + 17) 0 - 1)

abbrev pub age_slot : List ℕ → ℕ → List ℕ
age_slot w k = aged_words (get_or w (k * 3 + 17) 0 % 256) w k

-- the first n slots aged
abbrev pub aged_to : ℕ → List ℕ → List ℕ
aged_to zero w = w
aged_to (suc n) w = age_slot (aged_to n w) n

abbrev pub tick_words : List ℕ → List ℕ
tick_words w = with_number (aged_to 16 w) (fewer (emptied (slots_of w)) (number_of w))

-- the first n records of a table put into the slots
abbrev pub filled_to : ℕ → Slots → List ℕ → List ℕ
filled_to zero t w = w
filled_to (suc n) t w = put_record (filled_to n t w) n (get_or t n zeros)

-- A load, by what it brings: it replaces every slot and counts the number, and leaves every word as it came where it is refused. The
-- reserved words stay, and the reserved bits of word 0
abbrev pub filled_words : Slots → ℕ → List ℕ → List ℕ
filled_words t n w = with_number (filled_to 16 t w) n

abbrev pub loaded_words : List ℕ → Answer Slots → List ℕ
loaded_words w (value t) = filled_words t (records_in t) w
loaded_words w (refused n) = w
