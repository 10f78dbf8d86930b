-- The record that is kept of a recording: it is of bounded size, and the calls do with it what they do with the recording.
use Rattle.std.specs.Prelude.{ℕ, ◌+◌, ◌-◌, ◌*◌, ◌≤◌, ◌<◌, true, cond, List, [], ◌≡◌, eqb, leb, ltb, length, get_or, drop, replicate}
use Rattle.buffers.specs.Bytes.{put, tab}
use Rattle.slots.specs.Slot.{sectors_for}
use Rattle.names.specs.Name.{padded}
use Rattle.disk.specs.View.{View, view_tracks}
use Rattle.plans.specs.Change.{SaveRequest, usable}
use Rattle.plans.specs.Plan.{Result, refused_result, new_disk}
use Rattle.recordings.specs.Recording.{Recording, used_of}
use Rattle.recordings.specs.declared.Record.{Record}

-- where the last sector's body bytes begin, of a body of so many bytes (the first sector has nine fewer)
abbrev pub last_from : ℕ → ℕ
last_from long = 510 * (sectors_for long - 1) - 9

-- ---- the recording that a record stands for

-- body byte j: one of the first sector's, or of the last's; those between are on the disk, and no call asks for them
unfoldable pub kept_byte : Record → ℕ → ℕ
kept_byte k j =
    cond (ltb j 501) (get_or k.first j 0) (cond (leb (last_from k.long) j) (get_or k.last (j - last_from k.long) 0) 0)

unfoldable pub recording_of : Record → Recording
recording_of k = record {
  request = record { kind = k.kind; name = k.name; page = k.page; offset = k.offset; exec = k.exec; info = k.info; body = tab k.long (kept_byte k) };
  used = k.used;
  tracks = k.tracks;
}

-- ---- what the calls make of it

-- so many bytes of 0
abbrev pub zeros : ℕ → List ℕ
zeros n = replicate n 0

-- at opening: nothing came yet
unfoldable pub fresh_record : SaveRequest → View → Record
fresh_record w l = record {
  kind = w.kind;
  name = padded w.name;
  page = w.page;
  offset = w.offset;
  exec = put (zeros 3) 0 w.exec;
  info = put (zeros 11) 0 w.info;
  used = used_of l;
  tracks = view_tracks l;
  long = 0;
  first = zeros 501;
  last = zeros 510;
}

-- the bytes of the last sector after a piece x: where it begins no new sector it goes on in it, else a new one begins
unfoldable pub last_with : Record → List ℕ → List ℕ
last_with k x =
    cond (eqb (sectors_for (k.long + length x)) (sectors_for k.long)) (put k.last (k.long - last_from k.long) x)
    (put (zeros 510) 0 (drop (last_from (k.long + length x) - k.long) x))

-- with a piece x more
unfoldable pub record_with : Record → List ℕ → Record
record_with k x = record {
  kind = k.kind;
  name = k.name;
  page = k.page;
  offset = k.offset;
  exec = k.exec;
  info = k.info;
  used = k.used;
  tracks = k.tracks;
  long = k.long + length x;
  first = put k.first k.long x;
  last = last_with k x;
}

-- "Refusals, the recording then as before"
abbrev pub record_by : Record → List ℕ → Result → Record
record_by k x (refused_result n) = k
record_by k x (new_disk new ss) = record_with k x

-- ---- a record that stands for a recording

pub record RecordOf (k : Record) (r : Recording) : Type 0 where
  pub kind : k.kind ≡ r.request.kind
  pub name : k.name ≡ padded r.request.name
  pub usable : usable r.request.name ≡ true
  pub page : k.page ≡ r.request.page
  pub offset : k.offset ≡ r.request.offset
  pub exec : (j : ℕ) → j < 3 → get_or k.exec j 0 ≡ get_or r.request.exec j 0
  pub info : (j : ℕ) → j < 11 → get_or k.info j 0 ≡ get_or r.request.info j 0
  pub used : k.used ≡ r.used
  pub tracks : k.tracks ≡ r.tracks
  pub long : k.long ≡ length r.request.body
  pub room : (length k.first ≡ 501) × (length k.last ≡ 510)
  -- the first sector's body bytes, and the last's
  pub first : (j : ℕ) → j < 501 → j < length r.request.body → get_or k.first j 0 ≡ get_or r.request.body j 0
  pub last : (j : ℕ) → last_from (length r.request.body) ≤ j → j < length r.request.body
      → get_or k.last (j - last_from (length r.request.body)) 0 ≡ get_or r.request.body j 0
