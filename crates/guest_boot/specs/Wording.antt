-- The words of a fault of boot, and the line of the log that a run ends with after one: the variants' names from the outside in,
-- in lower case, and then the fields of the innermost in their order.
use Rattle.std.specs.Prelude.{ℕ, List, [], ◌++◌, string_bytes, codes}
use Rattle.std.specs.Fmt.{decimal, signed_decimal}
use Rattle.std.specs.Int.{w32, to_be_bytes}
use Rattle.hex.specs.Hex.{encode_lower}
use Rattle.mg_base.specs.declared.values.Digest.{Digest}
use Rattle.gpt.specs.declared.faults.GptFault.{GptFault}
use Rattle.gpt.specs.declared.faults.GptFault.TheVariants as gpt
use Rattle.idsig_v4.specs.declared.head.IdsigFault.{IdsigFault}
use Rattle.idsig_v4.specs.declared.head.IdsigFault.TheVariants as idsig
use Rattle.apk_verity.specs.declared.ApkFault.{ApkFault}
use Rattle.apk_verity.specs.declared.ApkFault.TheVariants as apk
use Rattle.verity_descriptor.specs.declared.DescriptorFault.{DescriptorFault}
use Rattle.verity_descriptor.specs.declared.DescriptorFault.TheVariants as descriptor
use Rattle.ro_file.specs.declared.files.RoFault.{RoFault}
use Rattle.ro_file.specs.declared.files.RoFault.TheVariants as file
use Rattle.instance_image.specs.declared.faults.ImageFault.{ImageFault}
use Rattle.instance_image.specs.declared.faults.ImageFault.TheVariants as image
use Rattle.instance_image.specs.declared.faults.GetFault.{GetFault}
use Rattle.instance_image.specs.declared.faults.GetFault.TheVariants as get
use Rattle.instance_image.specs.declared.faults.PutFault.{PutFault}
use Rattle.instance_image.specs.declared.faults.PutFault.TheVariants as put
use Rattle.guest_boot.specs.declared.faults.BootCause.{BootCause}
use Rattle.guest_boot.specs.declared.faults.BootCause.TheVariants.{Gpt, NoPart, Apk, File, Image, Get, Put, NoEntropy, MeasureText, Failed, Short, Memory}
use Rattle.guest_boot.specs.declared.faults.BootFault.{BootFault}

abbrev pub space : List ℕ
space = codes " "

abbrev pub line_feed : List ℕ
line_feed = codes "\n"

-- two numbers
abbrev pub pair : ℕ → ℕ → List ℕ
pair a b = decimal a ++ space ++ decimal b

-- the eight digits of a CRC-32
abbrev pub crc_text : ℕ → List ℕ
crc_text crc = encode_lower (to_be_bytes w32 crc)

-- two digests, 64 digits each
abbrev pub digests : Digest → Digest → List ℕ
digests a b = encode_lower a.0 ++ space ++ encode_lower b.0

abbrev pub gpt_words : GptFault → List ℕ
gpt_words (gpt.Size sectors) = codes "size " ++ decimal sectors
gpt_words gpt.Signature = codes "signature"
gpt_words (gpt.Revision found) = codes "revision " ++ decimal found
gpt_words (gpt.HeaderSize found) = codes "headersize " ++ decimal found
gpt_words (gpt.HeaderCrc expected found) = codes "headercrc " ++ crc_text expected ++ space ++ crc_text found
gpt_words (gpt.EntrySize found) = codes "entrysize " ++ decimal found
gpt_words (gpt.EntryCount found) = codes "entrycount " ++ decimal found
gpt_words gpt.Place = codes "place"
gpt_words (gpt.ArrayCrc expected found) = codes "arraycrc " ++ crc_text expected ++ space ++ crc_text found
gpt_words (gpt.Range entry) = codes "range " ++ decimal entry
gpt_words (gpt.Overlap a b) = codes "overlap " ++ pair a b
gpt_words gpt.Memory = codes "memory"

abbrev pub idsig_words : IdsigFault → List ℕ
idsig_words (idsig.Truncated at) = codes "truncated " ++ decimal at
idsig_words (idsig.Version found) = codes "version " ++ signed_decimal found
idsig_words (idsig.InfoLength found) = codes "infolength " ++ signed_decimal found
idsig_words (idsig.Algorithm found) = codes "algorithm " ++ signed_decimal found
idsig_words (idsig.BlockSize found) = codes "blocksize " ++ decimal found
idsig_words (idsig.SaltLength found) = codes "saltlength " ++ signed_decimal found
idsig_words (idsig.RootLength found) = codes "rootlength " ++ signed_decimal found
idsig_words (idsig.SigningLength found) = codes "signinglength " ++ signed_decimal found
idsig_words idsig.NoTree = codes "notree"
idsig_words (idsig.TreeLength expected found) = codes "treelength " ++ pair expected found

abbrev pub apk_words : ApkFault → List ℕ
apk_words (apk.Failed faults) = codes "failed " ++ decimal faults
apk_words (apk.Short asked got) = codes "short " ++ pair asked got
apk_words (apk.Idsig fault) = codes "idsig " ++ idsig_words fault
apk_words apk.SaltMismatch = codes "saltmismatch"
apk_words (apk.RootMismatch expected found) = codes "rootmismatch " ++ digests expected found
apk_words (apk.TooFewBlocks blocks) = codes "toofewblocks " ++ decimal blocks
apk_words (apk.TooManyBlocks blocks) = codes "toomanyblocks " ++ decimal blocks
apk_words (apk.SpanShort blocks sectors) = codes "spanshort " ++ pair blocks sectors
apk_words apk.Memory = codes "memory"

abbrev pub descriptor_words : DescriptorFault → List ℕ
descriptor_words (descriptor.Version found) = codes "version " ++ decimal found
descriptor_words (descriptor.Algorithm found) = codes "algorithm " ++ decimal found
descriptor_words (descriptor.BlockSize found) = codes "blocksize " ++ decimal found
descriptor_words (descriptor.SaltLength found) = codes "saltlength " ++ decimal found
descriptor_words (descriptor.NotZero at) = codes "notzero " ++ decimal at

abbrev pub file_words : RoFault → List ℕ
file_words (file.Failed faults) = codes "failed " ++ decimal faults
file_words (file.Short asked got) = codes "short " ++ pair asked got
file_words (file.DigestMismatch expected found) = codes "digestmismatch " ++ digests expected found
file_words (file.Descriptor fault) = codes "descriptor " ++ descriptor_words fault
file_words (file.TooLong size) = codes "toolong " ++ decimal size
file_words file.Memory = codes "memory"

abbrev pub image_words : ImageFault → List ℕ
image_words (image.Failed faults) = codes "failed " ++ decimal faults
image_words (image.Short asked got) = codes "short " ++ pair asked got
image_words image.Magic = codes "magic"
image_words (image.Version found) = codes "version " ++ decimal found
image_words (image.NotZero sector) = codes "notzero " ++ decimal sector
image_words image.SaltMismatch = codes "saltmismatch"
image_words (image.Header sector) = codes "header " ++ decimal sector
image_words (image.TooMany sector) = codes "toomany " ++ decimal sector
image_words image.Memory = codes "memory"

-- the tag that was heard is printed, and not the right one
abbrev pub get_words : GetFault → List ℕ
get_words get.NoRecord = codes "norecord"
get_words (get.Failed faults) = codes "failed " ++ decimal faults
get_words (get.Short asked got) = codes "short " ++ pair asked got
get_words (get.Changed sector) = codes "changed " ++ decimal sector
get_words (get.Tag tag) = codes "tag " ++ encode_lower tag.found
get_words get.Memory = codes "memory"

abbrev pub put_words : PutFault → List ℕ
put_words put.NoRecord = codes "norecord"
put_words (put.TooLarge text room) = codes "toolarge " ++ pair text room
put_words put.Memory = codes "memory"
put_words (put.Failed faults) = codes "failed " ++ decimal faults

abbrev pub boot_words : BootCause → List ℕ
boot_words (Gpt fault) = codes "gpt " ++ gpt_words fault
boot_words (NoPart name) = codes "nopart " ++ string_bytes name
boot_words (Apk fault) = codes "apk " ++ apk_words fault
boot_words (File fault) = codes "file " ++ file_words fault
boot_words (Image fault) = codes "image " ++ image_words fault
boot_words (Get fault) = codes "get " ++ get_words fault
boot_words (Put fault) = codes "put " ++ put_words fault
boot_words (NoEntropy left) = codes "noentropy " ++ decimal left
boot_words MeasureText = codes "measuretext"
boot_words (Failed faults) = codes "failed " ++ decimal faults
boot_words (Short asked got) = codes "short " ++ pair asked got
boot_words Memory = codes "memory"

-- the end line
abbrev pub boot_end : BootFault → List ℕ
boot_end fault = codes "end 8 boot " ++ decimal fault.line ++ space ++ boot_words fault.why ++ line_feed

-- ---- a line whose cause has a name, in three parts

-- the words before the name
abbrev pub front_words : BootCause → List ℕ
front_words (NoPart name) = codes "nopart "
front_words why = boot_words why

-- the name
abbrev pub named : BootCause → List ℕ
named (NoPart name) = string_bytes name
named why = []

abbrev pub front : BootFault → List ℕ
front fault = codes "end 8 boot " ++ decimal fault.line ++ space ++ front_words fault.why
