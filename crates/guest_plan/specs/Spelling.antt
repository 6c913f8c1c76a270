-- The grammar of a plan: how each item is spelled, and what a text of items says.
use Rattle.std.specs.Prelude.{◌≡◌, ℕ, ◌<◌, ◌≤◌, List, [], ◌∷◌, ◌++◌, length, map, true, Option, Some, None, Ok, codes}
use Rattle.std.specs.List.{AllByRecursion}
use Rattle.std.specs.Fmt.{decimal}
use Rattle.hex.specs.Hex.{encode_lower}
use Rattle.sha_tree.specs.declared.measure.Measure.{Measure}
use Rattle.guid_crc.specs.Guids.{guid_of, guid_text}
use Rattle.text_lines.specs.Values.{is_name, is_part}
use Rattle.text_lines.specs.Spelling.{IsHexed, IsSalt, ◌then◌, salt_text, spelled, collect, IsText}
use Rattle.guest_plan.specs.declared.plan.How.{How}
use Rattle.guest_plan.specs.declared.plan.How.TheVariants.{Fixed, First, Kept}
use Rattle.guest_plan.specs.declared.plan.PlanLine.{PlanLine}
use Rattle.guest_plan.specs.declared.plan.PlanLine.TheVariants as planned
use Rattle.guest_plan.specs.declared.plan.Item.{Item}
use Rattle.guest_plan.specs.declared.plan.Item.TheVariants.{Secret, InstanceSalt, Line}
use Rattle.guest_plan.specs.Plans.{Known, nothing, add, missing, plan_header}

-- ---- well formed

pub record IsDevice (m : Measure) : Type 0 where
  pub low : 2 ≤ m.blocks
  pub high : m.blocks < 1048577
  pub salt : IsSalt m.salt
  pub root : IsHexed 32 m.root.0

-- a GUID is the one that its text is read as
abbrev pub IsMeasuredBy : How → Type 0
IsMeasuredBy (Fixed m) = IsDevice m
IsMeasuredBy First = Unit {0}
IsMeasuredBy (Kept g) = guid_of (guid_text g.0) ≡ Some g

abbrev pub IsHostNumber : ℕ → Type 0
IsHostNumber n = n < 2147483648

abbrev pub IsServed : PlanLine → Type 0
IsServed (planned.Instance disk part) = IsHostNumber disk × (is_part part ≡ true)
IsServed (planned.Blob file m) = IsHostNumber file × IsDevice m
IsServed (planned.Apk disk apk idsig how) = IsHostNumber disk × (is_part apk ≡ true) × (is_part idsig ≡ true) × IsMeasuredBy how
IsServed (planned.File name file digest) = (is_name name ≡ true) × IsHostNumber file × IsHexed 32 digest.0
IsServed (planned.Write name file) = (is_name name ≡ true) × IsHostNumber file
IsServed (planned.WriteDir name file) = (is_name name ≡ true) × IsHostNumber file

abbrev pub IsItem : Item → Type 0
IsItem (Secret bytes) = IsHexed 32 bytes
IsItem (InstanceSalt bytes) = IsHexed 64 bytes
IsItem (Line l) = IsServed l

-- ---- spelled

-- blocks, salt and root
abbrev pub measure_text : Measure → List ℕ
measure_text m = decimal m.blocks then salt_text m.salt then encode_lower m.root.0

abbrev pub how_text : How → List ℕ
how_text (Fixed m) = codes "fixed" then measure_text m
how_text First = codes "first"
how_text (Kept g) = codes "record" then guid_text g.0

abbrev pub line_text : PlanLine → List ℕ
line_text (planned.Instance disk part) = codes "instance" then decimal disk then part
line_text (planned.Blob file m) = codes "blob" then decimal file then measure_text m
line_text (planned.Apk disk apk idsig how) = codes "apk" then decimal disk then apk then idsig then how_text how
line_text (planned.File name file digest) = codes "file" then name then decimal file then encode_lower digest.0
line_text (planned.Write name file) = codes "write" then name then decimal file
line_text (planned.WriteDir name file) = codes "writedir" then name then decimal file

abbrev pub item_text : Item → List ℕ
item_text (Secret bytes) = codes "secret" then encode_lower bytes
item_text (InstanceSalt bytes) = codes "salt" then encode_lower bytes
item_text (Line l) = line_text l

-- ---- a text

-- the text is a plan's, and says this
pub record IsPlan (text : List ℕ) (plan : Known) : Type 0 where
  pub items : IsText plan_header IsItem item_text add nothing text plan
  pub complete : missing plan ≡ None

-- ---- writing

abbrev pub secret_items : Option (List ℕ) → List Item
secret_items None = []
secret_items (Some bytes) = Secret bytes ∷ []

abbrev pub salt_items : Option (List ℕ) → List Item
salt_items None = []
salt_items (Some bytes) = InstanceSalt bytes ∷ []

-- the items that are written for a plan: the secret, the salt and then the lines
abbrev pub items_of : Known → List Item
items_of k = secret_items k.secret ++ (salt_items k.salt ++ map Line k.lines)

abbrev pub plan_text : Known → List ℕ
plan_text k = spelled plan_header item_text (items_of k)

-- the plan's lines are in the grammar, and its numbers are those of the text that is written
pub record IsWritten (k : Known) : Type 0 where
  pub each : AllByRecursion IsItem (items_of k)
  pub few : length (items_of k) < 4096
  pub says : collect add 2 nothing (items_of k) ≡ Ok k
  pub complete : missing k ≡ None
