-- Directory tracks beyond four. "These disks have up to 39 directory tracks.": how many there are, which bytes of slot 1 are the
-- disk's own, and which map bits are data. Here n is the number of those tracks.
use Rattle.std.specs.Prelude.{ℕ, zero, suc, ◌+◌, ◌-◌, ◌*◌, ◌/◌, ◌%◌, Bool, cond, not, ◌&&◌, ◌||◌, List, eqb, leb, ltb, length}
use Rattle.buffers.specs.Bytes.{any, word_or}
use Rattle.maps.specs.Bits.{has, clear_map, with_bit}

-- "a save into slot 1 now keeps bytes 210 to 219, 252, 253 and 255": they are the disk's, and no file's
unfoldable pub is_label : ℕ → Bool
is_label k = leb 210 k && leb k 219 || (eqb k 252 || (eqb k 253 || eqb k 255))

-- "Byte 255 of slot 1, erased or unread too, is the number n beyond four: 0 to 35, with 255 read as 0": of that byte.
-- On a disk that is refused 24 nothing asks for n, and it is 0.
unfoldable pub tracks_by : ℕ → ℕ
tracks_by b = cond (leb b 35) b 0

-- "24, n of 36 to 254"
unfoldable pub bad_tracks : ℕ → Bool
bad_tracks b = ltb 35 b && not (eqb b 255)

-- "The other 1,560 sectors are data."; for n above 0 there are "1,561 − 10n data sectors"
unfoldable pub data_count : ℕ → ℕ
data_count n = cond (eqb n 0) 1560 (1561 - 10 * n)

-- their map bits: tracks 4 on hold the rest of the directory, ten bits each, but "track 4 sector 1 stays data"
unfoldable pub data_bit : ℕ → ℕ → Bool
data_bit n b = ltb b 1560 && (eqb b 0 || leb (10 * n) b)

-- "a map bit inside the directory"
unfoldable pub in_directory : ℕ → List ℕ → Bool
in_directory n m = any 1560 (λ b. has m b && not (data_bit n b))

-- the eight bytes of a map from byte b / 8 on are there and 0, and bit b is the first of them
unfoldable pub clear_at : List ℕ → ℕ → Bool
clear_at m b = eqb (b % 8) 0 && (leb (b / 8 + 8) (length m) && eqb (word_or m (b / 8)) 0)

-- a bit from 1 on before which none but bit 0 is set
unfoldable pub past_first : List ℕ → ℕ
past_first m = cond (leb 8 (length m) && leb (word_or m 0) 1) 64 1

-- the map of the bits inside the directory: of those below k, and of all
unfoldable pub inner_to : ℕ → ℕ → List ℕ
inner_to n zero = clear_map
inner_to n (suc b) = cond (data_bit n b) (inner_to n b) (with_bit (inner_to n b) b)

abbrev pub inner_map : ℕ → List ℕ
inner_map n = inner_to n 1560
