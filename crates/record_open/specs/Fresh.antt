-- The record at opening, as the code makes it.
use Rattle.std.specs.Prelude.{List, ℕ}
use Rattle.buffers.specs.Bytes.{part, put}
use Rattle.names.specs.Name.{padded}
use Rattle.surveys.specs.declared.UsedMap.{UsedMap}
use Rattle.allocation.specs.declared.HeaderFields.{HeaderFields}
use Rattle.recordings.specs.declared.Record.{Record}
use Rattle.recordings.specs.Record.{zeros}

-- of the save's particulars, and the used map and n at opening
unfoldable pub fresh_for : HeaderFields → List ℕ → List ℕ → List ℕ → UsedMap → Record
fresh_for s n e i u = record {
  kind = s.kind;
  name = part 0 10 (padded n);
  page = s.page;
  offset = s.offset;
  exec = put (zeros 3) 0 e;
  info = put (zeros 11) 0 i;
  used = u.bytes;
  tracks = u.tracks;
  long = 0;
  first = zeros 501;
  last = zeros 510;
}
