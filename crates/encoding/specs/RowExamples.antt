-- Words of every row of the table, read as eleven literal numbers: of each row one word whose fields are as different as their widths allow, and a second
-- one where the first cannot tell two fields apart. So a field at another place, of another width or scale, or exchanged with another one is refused, and
-- so is a row at another level. To believe: the lists. The numbers are the second program's (rust/second), which has no table.
-- Assumes nothing.
use Rattle.std.specs.Prelude.{ℕ, ◌-◌, ◌≡◌, List, [], ◌∷◌, map, replicate, Err}
use Rattle.settings.specs.Answer.{answer_with}
use Rattle.encoding.specs.Codec.{decode_of, decode_answer}
use Rattle.encoding.specs.declared.operation.DecodeRefusal.TheVariants.{BadLevel}

-- a word, the least level at which it decodes, and its numbers
pub record RowExample : Type 0 where
  pub word : ℕ
  pub level : ℕ
  pub numbers : List ℕ

abbrev reads : ℕ → ℕ → List ℕ → RowExample
reads w l ns = record { word = w; level = l; numbers = ns }

-- in the table's order
unfoldable pub row_examples : List RowExample
row_examples =
    reads 0xC000D64D 1 (1 ∷ 1 ∷ 1 ∷ 0 ∷ 13 ∷ 14 ∷ 5 ∷ 18 ∷ 0 ∷ 0 ∷ 1 ∷ []) ∷
    reads 0xC0003889 1 (1 ∷ 1 ∷ 0 ∷ 0 ∷ 9 ∷ 13 ∷ 6 ∷ 4 ∷ 0 ∷ 0 ∷ 1 ∷ []) ∷
    reads 0xC040DECB 1 (1 ∷ 2 ∷ 1 ∷ 1 ∷ 3 ∷ 14 ∷ 7 ∷ 22 ∷ 0 ∷ 0 ∷ 1 ∷ []) ∷
    reads 0xC0406A4F 1 (1 ∷ 2 ∷ 0 ∷ 1 ∷ 7 ∷ 15 ∷ 2 ∷ 18 ∷ 0 ∷ 0 ∷ 1 ∷ []) ∷
    reads 0xC0809F2B 1 (1 ∷ 4 ∷ 1 ∷ 2 ∷ 3 ∷ 12 ∷ 7 ∷ 25 ∷ 0 ∷ 0 ∷ 1 ∷ []) ∷
    reads 0xC0807A46 1 (1 ∷ 4 ∷ 0 ∷ 1 ∷ 2 ∷ 15 ∷ 6 ∷ 18 ∷ 0 ∷ 0 ∷ 1 ∷ []) ∷
    reads 0xC0C0DF6B 1 (1 ∷ 8 ∷ 1 ∷ 5 ∷ 1 ∷ 14 ∷ 7 ∷ 27 ∷ 0 ∷ 0 ∷ 1 ∷ []) ∷
    reads 0xC0C0FFEC 1 (1 ∷ 8 ∷ 1 ∷ 6 ∷ 0 ∷ 15 ∷ 7 ∷ 31 ∷ 0 ∷ 0 ∷ 1 ∷ []) ∷
    reads 0xC0C1CE4C 1 (1 ∷ 16 ∷ 1 ∷ 12 ∷ 0 ∷ 14 ∷ 3 ∷ 18 ∷ 0 ∷ 0 ∷ 1 ∷ []) ∷
    reads 0xC0C17F4B 1 (1 ∷ 16 ∷ 0 ∷ 11 ∷ 0 ∷ 15 ∷ 7 ∷ 26 ∷ 0 ∷ 0 ∷ 1 ∷ []) ∷
    reads 0xC002C3BA 3 (2 ∷ 1 ∷ 1 ∷ 0 ∷ 13 ∷ 14 ∷ 0 ∷ 26 ∷ 0 ∷ 0 ∷ 1 ∷ []) ∷
    reads 0xC042C393 3 (2 ∷ 2 ∷ 1 ∷ 1 ∷ 4 ∷ 14 ∷ 0 ∷ 19 ∷ 0 ∷ 0 ∷ 1 ∷ []) ∷
    reads 0xC042C2E5 3 (2 ∷ 2 ∷ 1 ∷ 0 ∷ 7 ∷ 14 ∷ 0 ∷ 5 ∷ 0 ∷ 0 ∷ 1 ∷ []) ∷
    reads 0xC0828372 3 (2 ∷ 4 ∷ 1 ∷ 2 ∷ 3 ∷ 12 ∷ 0 ∷ 18 ∷ 0 ∷ 0 ∷ 1 ∷ []) ∷
    reads 0xC082C38B 3 (2 ∷ 4 ∷ 1 ∷ 3 ∷ 0 ∷ 14 ∷ 0 ∷ 11 ∷ 0 ∷ 0 ∷ 1 ∷ []) ∷
    reads 0xC0C2C371 3 (2 ∷ 8 ∷ 1 ∷ 5 ∷ 1 ∷ 14 ∷ 0 ∷ 17 ∷ 0 ∷ 0 ∷ 1 ∷ []) ∷
    reads 0xC0C2636B 3 (2 ∷ 8 ∷ 0 ∷ 5 ∷ 1 ∷ 15 ∷ 0 ∷ 11 ∷ 0 ∷ 0 ∷ 1 ∷ []) ∷
    reads 0xC0C3C3F5 3 (2 ∷ 16 ∷ 1 ∷ 15 ∷ 0 ∷ 14 ∷ 0 ∷ 21 ∷ 0 ∷ 0 ∷ 1 ∷ []) ∷
    reads 0xC0066CF8 2 (3 ∷ 0 ∷ 0 ∷ 0 ∷ 7 ∷ 11 ∷ 0 ∷ 24 ∷ 0 ∷ 0 ∷ 4 ∷ []) ∷
    reads 0xC0066AFC 3 (4 ∷ 0 ∷ 0 ∷ 0 ∷ 7 ∷ 11 ∷ 0 ∷ 28 ∷ 0 ∷ 0 ∷ 2 ∷ []) ∷
    reads 0xE035DA69 1 (5 ∷ 1 ∷ 1 ∷ 0 ∷ 9 ∷ 14 ∷ 6 ∷ 0 ∷ 19 ∷ 21 ∷ 0 ∷ []) ∷
    reads 0xE0383D24 1 (5 ∷ 1 ∷ 0 ∷ 0 ∷ 4 ∷ 13 ∷ 7 ∷ 0 ∷ 9 ∷ 24 ∷ 0 ∷ []) ∷
    reads 0xC002F13D 1 (6 ∷ 1 ∷ 1 ∷ 0 ∷ 9 ∷ 15 ∷ 4 ∷ 29 ∷ 0 ∷ 0 ∷ 1 ∷ []) ∷
    reads 0xC002D956 1 (6 ∷ 1 ∷ 1 ∷ 0 ∷ 10 ∷ 14 ∷ 6 ∷ 22 ∷ 0 ∷ 0 ∷ 1 ∷ []) ∷
    reads 0xC042D1B2 1 (6 ∷ 2 ∷ 1 ∷ 1 ∷ 5 ∷ 14 ∷ 4 ∷ 18 ∷ 0 ∷ 0 ∷ 1 ∷ []) ∷
    reads 0xC04271AA 1 (6 ∷ 2 ∷ 0 ∷ 1 ∷ 5 ∷ 15 ∷ 4 ∷ 10 ∷ 0 ∷ 0 ∷ 1 ∷ []) ∷
    reads 0xC082BD75 1 (6 ∷ 4 ∷ 1 ∷ 2 ∷ 3 ∷ 13 ∷ 7 ∷ 21 ∷ 0 ∷ 0 ∷ 1 ∷ []) ∷
    reads 0xC08259B0 1 (6 ∷ 4 ∷ 0 ∷ 3 ∷ 1 ∷ 14 ∷ 6 ∷ 16 ∷ 0 ∷ 0 ∷ 1 ∷ []) ∷
    reads 0xC0C2F5B9 1 (6 ∷ 8 ∷ 1 ∷ 6 ∷ 1 ∷ 15 ∷ 5 ∷ 25 ∷ 0 ∷ 0 ∷ 1 ∷ []) ∷
    reads 0xC0C24D76 1 (6 ∷ 8 ∷ 0 ∷ 5 ∷ 1 ∷ 14 ∷ 3 ∷ 22 ∷ 0 ∷ 0 ∷ 1 ∷ []) ∷
    reads 0xC0C3D5BB 1 (6 ∷ 16 ∷ 1 ∷ 13 ∷ 0 ∷ 14 ∷ 5 ∷ 27 ∷ 0 ∷ 0 ∷ 1 ∷ []) ∷
    reads 0xC0C3E814 1 (6 ∷ 16 ∷ 1 ∷ 0 ∷ 0 ∷ 15 ∷ 2 ∷ 20 ∷ 0 ∷ 0 ∷ 1 ∷ []) ∷
    reads 0xC00648FC 2 (3 ∷ 0 ∷ 0 ∷ 0 ∷ 7 ∷ 10 ∷ 0 ∷ 28 ∷ 0 ∷ 0 ∷ 2 ∷ []) ∷
    reads 0xC0064EF4 3 (4 ∷ 0 ∷ 0 ∷ 0 ∷ 7 ∷ 10 ∷ 0 ∷ 20 ∷ 0 ∷ 0 ∷ 4 ∷ []) ∷
    reads 0xE071FE4C 1 (5 ∷ 2 ∷ 1 ∷ 1 ∷ 4 ∷ 15 ∷ 7 ∷ 0 ∷ 18 ∷ 17 ∷ 0 ∷ []) ∷
    reads 0xE07AD464 1 (5 ∷ 2 ∷ 1 ∷ 0 ∷ 4 ∷ 14 ∷ 5 ∷ 0 ∷ 3 ∷ 26 ∷ 0 ∷ []) ∷
    reads 0xE0BDDCAE 1 (5 ∷ 4 ∷ 1 ∷ 3 ∷ 2 ∷ 14 ∷ 7 ∷ 0 ∷ 5 ∷ 29 ∷ 0 ∷ []) ∷
    reads 0xE0B47FA6 1 (5 ∷ 4 ∷ 0 ∷ 1 ∷ 2 ∷ 15 ∷ 7 ∷ 0 ∷ 29 ∷ 20 ∷ 0 ∷ []) ∷
    reads 0xE0E9F769 1 (5 ∷ 8 ∷ 1 ∷ 4 ∷ 1 ∷ 15 ∷ 5 ∷ 0 ∷ 27 ∷ 9 ∷ 0 ∷ []) ∷
    reads 0xE0FFD966 1 (5 ∷ 8 ∷ 1 ∷ 3 ∷ 0 ∷ 14 ∷ 6 ∷ 0 ∷ 11 ∷ 31 ∷ 0 ∷ []) ∷
    reads 0xE1F5D7EF 1 (5 ∷ 16 ∷ 1 ∷ 15 ∷ 0 ∷ 14 ∷ 5 ∷ 0 ∷ 31 ∷ 21 ∷ 0 ∷ []) ∷
    reads 0xE1FC31C3 1 (5 ∷ 16 ∷ 0 ∷ 3 ∷ 0 ∷ 13 ∷ 4 ∷ 0 ∷ 14 ∷ 28 ∷ 0 ∷ []) ∷
    reads 0xE01CD7AB 1 (7 ∷ 1 ∷ 1 ∷ 0 ∷ 11 ∷ 14 ∷ 5 ∷ 0 ∷ 29 ∷ 28 ∷ 0 ∷ []) ∷
    reads 0xE0157D68 1 (7 ∷ 1 ∷ 0 ∷ 0 ∷ 8 ∷ 15 ∷ 7 ∷ 0 ∷ 11 ∷ 21 ∷ 0 ∷ []) ∷
    reads 0xE05EF36D 1 (7 ∷ 2 ∷ 1 ∷ 1 ∷ 5 ∷ 15 ∷ 4 ∷ 0 ∷ 27 ∷ 30 ∷ 0 ∷ []) ∷
    reads 0xE04B76CF 1 (7 ∷ 2 ∷ 0 ∷ 1 ∷ 7 ∷ 15 ∷ 5 ∷ 0 ∷ 22 ∷ 11 ∷ 0 ∷ []) ∷
    reads 0xE099F50E 1 (7 ∷ 4 ∷ 1 ∷ 3 ∷ 2 ∷ 15 ∷ 5 ∷ 0 ∷ 8 ∷ 25 ∷ 0 ∷ []) ∷
    reads 0xE09B33EE 1 (7 ∷ 4 ∷ 0 ∷ 3 ∷ 2 ∷ 13 ∷ 4 ∷ 0 ∷ 31 ∷ 27 ∷ 0 ∷ []) ∷
    reads 0xE0D8CD0B 1 (7 ∷ 8 ∷ 1 ∷ 5 ∷ 1 ∷ 14 ∷ 3 ∷ 0 ∷ 8 ∷ 24 ∷ 0 ∷ []) ∷
    reads 0xE0DD7F8D 1 (7 ∷ 8 ∷ 0 ∷ 6 ∷ 1 ∷ 15 ∷ 7 ∷ 0 ∷ 28 ∷ 29 ∷ 0 ∷ []) ∷
    reads 0xE1D8DF4A 1 (7 ∷ 16 ∷ 1 ∷ 10 ∷ 0 ∷ 14 ∷ 7 ∷ 0 ∷ 26 ∷ 24 ∷ 0 ∷ []) ∷
    reads 0xE1DDEAE4 1 (7 ∷ 16 ∷ 1 ∷ 4 ∷ 0 ∷ 15 ∷ 2 ∷ 0 ∷ 23 ∷ 29 ∷ 0 ∷ []) ∷
    []

-- at its level each word has its numbers; at the level below it is undecodable; above level 3 no word is looked at, one of no row neither
pub record RowsHold : Type 0 where
  pub read : map (λ (e : RowExample). decode_answer e.word e.level) row_examples ≡ map (λ (e : RowExample). answer_with 0 e.numbers) row_examples
  pub below : map (λ (e : RowExample). decode_answer e.word (e.level - 1)) row_examples ≡ map (λ (e : RowExample). answer_with 3 []) row_examples
  pub above : map (decode_answer 0xC080ACA9) (4 ∷ 5 ∷ 255 ∷ 256 ∷ 0x1_0000_0003 ∷ []) ≡ replicate 5 (answer_with 1 [])
  pub above_none : map (decode_answer 0xC0000010) (4 ∷ 5 ∷ 255 ∷ 256 ∷ 0x1_0000_0003 ∷ []) ≡ replicate 5 (answer_with 1 [])
  pub above_decoded : map (decode_of 0xC080ACA9) (4 ∷ 5 ∷ 255 ∷ 256 ∷ 0x1_0000_0003 ∷ []) ≡ replicate 5 (Err BadLevel)
