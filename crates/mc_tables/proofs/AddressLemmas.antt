-- The address that a word denotes.
use Rattle.std.proofs.Common.{◌≡◌, ℕ, List, Option, Some}
use Rattle.std.specs.Prelude.{IfSome}
use Rattle.mc_text.specs.declared.text.addr.Order.{Order}
use Rattle.mc_text.specs.Addr.{IsAddr}
use Rattle.mc_text.specs.AddressReading.{address_of_word}
use Rattle.mc_text.specs.AddressWord.{IsAddressWord}
use Rattle.mc_text.proofs.AddressReading.{address_of_word-sound, address_of_word-complete}
use Rattle.mc_text.proofs.StepLemmas.{answer_is_value}
use Rattle.mc_tables.specs.TableWords.{WordDenotesAddress, address_in}

-- the address that is read is the one that the word denotes
pub address_in-denotes : (order : Order) (word : List ℕ) (a : ℕ) → address_in order word ≡ Some a
    → WordDenotesAddress order word a
unfolding address_of_word
address_in-denotes order word a e = address_of_word-sound order word a e

-- the address that the word denotes is read
pub address_in-from_denotes : (order : Order) (word : List ℕ) (a : ℕ) → WordDenotesAddress order word a
    → address_in order word ≡ Some a
unfolding address_of_word
address_in-from_denotes order word a h = address_of_word-complete order word a h.0 h.1

-- a result that is found, and only found, where the word denotes it is what reading gives
pub address_in-from_clauses : (order : Order) (word : List ℕ) (read : Option ℕ) → IfSome read IsAddr
    → IfSome read (λ a. IsAddressWord order word a)
    → ((a : ℕ) → IsAddr a → IsAddressWord order word a → read ≡ Some a)
    → read ≡ address_in order word
address_in-from_clauses order word read small writes only =
    answer_is_value IsAddr (IsAddressWord order word) read (address_in order word) small writes only
    (address_in-denotes order word) (λ a fits shown. address_in-from_denotes order word a (fits, shown))
