-- Where the bytes of a load or store lie in memory. Renders 01 §5, and answers 6 and 7 of 01 §6, as docs/RULES.md has them.
-- To believe: register 31 is the stack pointer as a base and zero as an offset; the offset counts elements; addresses are taken
-- modulo 2^64.
-- Assumes nothing.
use Rattle.std.specs.Prelude.{ℕ, ◌+◌, ◌*◌, ◌/◌, ◌%◌, ◌^◌, Bool, cond, ◌&&◌, List, eqb, leb, ltb, get_or}
use Rattle.tiles.specs.Element.{bytes_of}
use Rattle.encoding.specs.declared.operation.SliceAccess.{SliceAccess}

-- number 31 of X is the stack pointer; as an offset register 31 reads as zero
abbrev pub base_of : List ℕ → ℕ → ℕ
base_of x rn = get_or x rn 0

abbrev pub offset_of : List ℕ → ℕ → ℕ
offset_of x rm = cond (eqb rm 31) 0 (get_or x rm 0)

-- the address of byte k of a slice of m-byte elements: byte k % m of element k / m
abbrev pub address_at : ℕ → ℕ → ℕ → ℕ → ℕ
address_at base offset m k = (base + (offset + k / m) * m + k % m) % 2 ^ 64

-- the same for a load or store, by its registers; the lowest byte of an element has the lowest address
abbrev pub address_of : List ℕ → SliceAccess → ℕ → ℕ
address_of x o k = address_at (base_of x o.rn) (offset_of x o.rm) (bytes_of o.slice.size) k

-- the number of the element that byte k is of
abbrev pub element_of : SliceAccess → ℕ → ℕ
element_of o k = k / bytes_of o.slice.size

-- memory has lm bytes from address a on
abbrev pub in_memory : ℕ → ℕ → ℕ → Bool
in_memory a lm address = leb a address && ltb address (a + lm)
