-- The machine, its requests, and a moment of a run.
use Rattle.std.specs.Prelude.{◌≡◌, ℕ, ◌*◌, ◌≤◌, List, take, drop, slice_get, Option, Some, None, Result, ◌==◌, if◌then◌else◌}
use Rattle.std.specs.Int.{w32, w64, from_le_bytes}
use Rattle.host_traits.specs.Told.{Told, Exchanges, Made}
use Rattle.session_frames.specs.Frames.{Framed}
use Rattle.session_frames.specs.Replies.{Sent}
use Rattle.verity_path.specs.Calls.{Suits}
use Rattle.verity_path.specs.declared.device.Cause.{Cause}
use Rattle.verity_path.specs.declared.device.Device.{Device}
use Rattle.fuse_codec.specs.Message.{Message, Bad}
use Rattle.fuse_codec.specs.Reading.{decoded}
use Rattle.fuse_server.specs.State.{State as Fuse}
use Rattle.instance_image.specs.declared.values.Part.{Part}
use Rattle.instance_image.specs.Records.{Kept}
use Rattle.instance_image.specs.Sealings.{Sealing}

-- how many bytes an item has
abbrev pub size_of : Device → ℕ
size_of it = 4096 * it.measure.blocks

-- an item has from 2 to 1,048,576 blocks, and its places are such
pub record IsItem (it : Device) : Type 0 where
  pub least : 2 ≤ it.measure.blocks
  pub most : it.measure.blocks ≤ 1048576
  pub suits : Suits it.layout it.measure.blocks

abbrev pub AreItems : List Device → Type 0
AreItems items = (k : ℕ) (it : Device) → slice_get items k ≡ Some it → IsItem it

-- where the instance image begins on which disk, its salt, and the secret of its records
pub record Instance : Type 0 where
  pub disk : ℕ
  pub first : ℕ
  pub salt : List ℕ
  pub secret : List ℕ

-- what boot gave, and no request changes: the items of channel 1, and the instance image, where there is one
pub record Setting : Type 0 where
  pub items : List Device
  pub image : Option Instance

-- What the machine keeps: names and nodes, open handles and read-only files, of which messages speak; the bytes of entropy that
-- are left; the partitions of the instance image, with the sizes of their records.
pub record State : Type 0 where
  pub fuse : Fuse
  pub entropy : List ℕ
  pub parts : List Part

-- an image with these partitions
abbrev pub image_with : Instance → List Part → Kept
image_with i parts = record { disk = i.disk; first = i.first; salt = i.salt; parts = parts }

-- a read of a measured item
pub record ItemRead : Type 0 where
  pub item : ℕ
  pub offset : ℕ
  pub size : ℕ

-- the item, offset and size of a payload of 16 bytes, little-endian
abbrev pub item_read : List ℕ → ItemRead
item_read payload = record { item = from_le_bytes w32 (take 4 payload); offset = from_le_bytes w64 (take 8 (drop 4 payload)); size = from_le_bytes w32 (take 4 (drop 12 payload)) }

-- a message of FUSE, or what is wrong with it; a read of an item; a get of the record of a UUID; a put of a text into it
pub data Request : Type 0 where
  message_of : Result Message Bad → Request
  read_of : ItemRead → Request
  get_of : (uuid : List ℕ) → Request
  put_of : (uuid text : List ℕ) → Request

-- the request of a frame of a channel, 0 to 3: a UUID has 16 bytes, and the text of a put follows it
abbrev pub request_on : ℕ → List ℕ → Request
request_on channel payload =
    if channel == 0 then message_of (decoded payload)
    else if channel == 1 then read_of (item_read payload)
    else if channel == 2 then get_of payload
    else put_of (take 16 payload) (drop 16 payload)

-- the request of a frame
abbrev pub request_of : Framed → Request
request_of f = request_on f.channel f.payload

-- a moment of a run: the machine, all that was heard, what this run has sealed, and what the host tells
pub record Moment : Type 0 where
  pub state : State
  pub heard : Exchanges
  pub sealings : List Sealing
  pub told : Told

abbrev pub moment : State → Told → Exchanges → List Sealing → Moment
moment state told heard sealings = record { state = state; heard = heard; sealings = sealings; told = told }

-- a frame, the calls that were made for it, failed ones too, the reply and its cause
pub record Turn : Type 0 where
  pub frame : Framed
  pub own : List Made
  pub sent : Sent
  pub cause : Option Cause

-- the content of a read-only file, and the salt of its tree
pub record Salted : Type 0 where
  pub content : List ℕ
  pub salt : List ℕ

-- What is taken as known: for each item, and for each read-only file by its number at the host, its content, where there is one;
-- and the texts that were sealed before this run, where all of them are known.
pub record World : Type 0 where
  pub item : ℕ → Option (List ℕ)
  pub file : ℕ → Option Salted
  pub sealed : Option (List Sealing)

-- the world without contents
abbrev pub nowhere : World
nowhere = record { item = λ k. None; file = λ n. None; sealed = None }
