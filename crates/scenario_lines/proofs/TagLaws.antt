-- A memory can be made of the image of each tag line.
use Rattle.std.proofs.Common.{◌≡◌, ◌≤◌, ℕ, nat_le, Bool, true, ◌&&◌, refl, arith}
use Rattle.std.proofs.lemmas.Bool.Decides.{nat_tests}
use Rattle.tag_memory.specs.Image.{banks_of, sizes_fit}
use Rattle.tag_memory.specs.Memory.{IsLegalMemory}
use Rattle.scenario_lines.specs.declared.tag.TagSpec.{TagSpec}
use Rattle.scenario_lines.specs.TagForm.{IsTag, IsTagForm}

all_five : (a b c d e : Bool) → (a ≡ true) × (b ≡ true) × (c ≡ true) × (d ≡ true) × (e ≡ true) → (a && b && c && d && e) ≡ true
all_five a b c d e are = rw (are.0, are.1, are.2, are.3, are.4) refl

passes : (least most : ℕ) → least ≤ most → nat_le least most ≡ true
passes least most within = grind (arith, nat_tests)

-- the sizes of its banks are those that a tag's banks may have
pub sizes-fit : (tag : TagSpec) → IsTagForm tag → sizes_fit tag.image ≡ true
sizes-fit tag form =
    all_five _ _ _ _ _ (
      passes _ _ form.epc.some,
      passes _ _ form.epc.room,
      passes _ _ form.tid.some,
      passes _ _ form.tid.room,
      passes _ _ form.user.room,
    )

-- the banks of the memory
pub banks-legal : (tag : TagSpec) → IsTag tag → IsLegalMemory (banks_of tag.image)
banks-legal tag is = record {
  reserved_size = refl;
  epc_least = omega (arith, is.form.epc.some);
  epc_most = omega (arith, is.form.epc.room);
  tid_least = is.form.tid.some;
  tid_most = is.form.tid.room;
  user_most = is.form.user.room;
  length_fits = grind (arith, nat_tests, is.pc);
}
