-- The fields of an APK device's line, without where they lie in memory.
use Rattle.std.specs.Prelude.{ℕ, List}
use Rattle.guest_plan.specs.declared.apks.ApkFields.{ApkFields}
use Rattle.guest_plan.specs.declared.apks.Places.{Places}

abbrev pub fields_at : ApkFields → List ℕ × List ℕ × List ℕ × List ℕ
fields_at f = (f.disk.now, f.apk.now, f.idsig.now, f.how.now)

abbrev pub places_at : Places → ℕ × List ℕ × List ℕ
places_at p = (p.disk, p.apk, p.idsig)
