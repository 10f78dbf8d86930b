-- The paper's number and values for each case of an answer.
use Rattle.std.specs.Prelude.{ℕ, List, Result, Ok, Err}
use Rattle.std.proofs.Math.Option.{none, some}
use Rattle.buffers.specs.Bytes.{put}
use Rattle.refusals.specs.Order.{Refusal, Reply, refuse}
use Rattle.refusals.specs.declared.Reason.{Reason}
use Rattle.refusals.specs.declared.Reason.TheVariants.{NotAnImage, KindUnknown, NameMissing, CountOutOfRange, BitsDiffer, FirstNotOwn, LengthTooGreat, SectorShared, NameTwice, ChainBroken, HeaderDiffers, NameNotUsable, WrongKind, StartOutOfRange, NameNotFound, NameTaken, FileProtected, NoFreeSlot, TooFewSectors, BufferTooShort, NoSuchSector, WasteSectors, NamesNotTens, TracksOutOfRange, BodyTooLong, CodeNotOwn, NoSuchDirectory, InsideItself, DirectoryNotEmpty, RecordingMoved, ReportFull, NoFreeRun}
use Rattle.refusals.specs.declared.Refused.{Refused}

-- "Numbers of refusal"
abbrev pub refusal_number : Reason → ℕ
-- the image is not 819,200 bytes
refusal_number NotAnImage = 1
-- the kind is not known
refusal_number KindUnknown = 2
-- "3 is given no more": the number stays taken
refusal_number NameMissing = 3
-- the count is not 1 to the number of data sectors
refusal_number CountOutOfRange = 4
-- the map's set bits are not as many as the count
refusal_number BitsDiffer = 5
-- the first address is not a data sector, or its bit is clear, or a map bit is inside the directory
refusal_number FirstNotOwn = 6
-- carried kind, and 510 × count is below 9 + length
refusal_number LengthTooGreat = 7
-- the map shares a bit with an earlier live slot
refusal_number SectorShared = 8
-- the name is an earlier live slot's
refusal_number NameTwice = 9
-- the chain is broken
refusal_number ChainBroken = 10
-- carried kind, and the header differs from the slot
refusal_number HeaderDiffers = 11
-- the name is not usable
refusal_number NameNotUsable = 12
-- the kind asked for, or found, is not one that the call takes
refusal_number WrongKind = 13
-- start page above 31, or offset outside 32,768 to 49,151
refusal_number StartOutOfRange = 14
-- no live slot has the name
refusal_number NameNotFound = 15
-- a live slot has the new name
refusal_number NameTaken = 16
-- protected
refusal_number FileProtected = 17
-- no slot has byte 0 zero
refusal_number NoFreeSlot = 18
-- fewer free sectors than the save takes
refusal_number TooFewSectors = 19
-- a lent output buffer is too short
refusal_number BufferTooShort = 20
-- no such drive, track or sector
refusal_number NoSuchSector = 21
-- a carried kind whose count is above the least that its length needs (the release check alone)
refusal_number WasteSectors = 22
-- names laid end to end that are not a whole number of tens (erase many)
refusal_number NamesNotTens = 23
-- the number of directory tracks beyond four is 36 to 254 (in the listing program above 0)
refusal_number TracksOutOfRange = 24
-- kind 1 to 4, and 510 × count is below 9 + length
refusal_number BodyTooLong = 25
-- a directory with code 0 or an earlier directory's code (the listing of a directory alone, as 27 and 28)
refusal_number CodeNotOwn = 26
-- a live slot's byte 254 is not 0 and no directory's code
refusal_number NoSuchDirectory = 27
-- a directory lies inside itself at some depth
refusal_number InsideItself = 28
-- a directory whose code, not 0, is another live slot's byte 254 (erase)
refusal_number DirectoryNotEmpty = 29
-- the used map or n is not what it was at opening, or a sector that a recording's pieces listed lacks its link (a piece, a close)
refusal_number RecordingMoved = 30
-- a disk or join that would pass 65,535 disks
refusal_number ReportFull = 31
-- no run of consecutive free sectors as long as the file that is to be gathered
refusal_number NoFreeRun = 32

-- the last number of the table: document 01 ends at 21, document 02 at 32
abbrev pub last_number : ℕ
last_number = 32

abbrev pub refusal_of : Refused → Refusal
refusal_of r = refuse (refusal_number r.reason) r.slot

-- what a check replies
abbrev pub reply_of : {A : Type 0} → Result A Refused → Reply
reply_of (Ok _) = none
reply_of (Err r) = some (refusal_of r)

-- what a call gives: its value and the free sectors, or a refusal
pub data Outcome : Type 0 where
  done : ℕ → ℕ → Outcome
  refused : Refusal → Outcome

-- of a call that gives one value
abbrev pub outcome_of : Result ℕ Refused → Outcome
outcome_of (Ok v) = done v 0
outcome_of (Err r) = refused (refusal_of r)

-- an outcome, unless there is a refusal
abbrev pub unless : Reply → Outcome → Outcome
unless (some r) o = refused r
unless none o = o

-- a call that fills a lent buffer gives its outcome, and the buffer at return
pub record Out : Type 0 where
  pub outcome : Outcome
  pub buffer : List ℕ

abbrev pub out : Outcome → List ℕ → Out
out o b = record { outcome = o; buffer = b }

-- "Nothing lent changes" where there is a refusal; else bytes are put to the front of the buffer, and the rest stays
abbrev pub filled : Reply → Outcome → List ℕ → List ℕ → Out
filled (some r) o x buf = out (refused r) buf
filled none o x buf = out o (put buf 0 x)
