-- 6.3.2.1 Tag memory: the memory that a tag is made with. The sizes are profile.
use Rattle.std.specs.Prelude.{ℕ, ◌+◌, ◌-◌, ◌/◌, ◌%◌, ◌^◌, nat_le, Bool, ◌&&◌, [], ◌∷◌, length, slice_index}
use Rattle.std.specs.List.{slice_set}
use Rattle.tag_memory.specs.declared.image.BankImage.{BankImage}
use Rattle.tag_memory.specs.Memory.{Banks, length_in, with_stored_crc}

-- the EPC bank from PC on has 1 to 32 words, TID 2 to 16, and User at most 512
abbrev pub sizes_fit : BankImage → Bool
sizes_fit image =
    nat_le 1 (length image.epc) && nat_le (length image.epc) 32 && nat_le 2 (length image.tid) && nat_le (length image.tid) 16
    && nat_le (length image.user) 512

-- the EPC that a PC announces, which stands behind it and StoredCRC, lies inside a bank of so many words
abbrev pub epc_fits : ℕ → ℕ → Bool
epc_fits pc count = nat_le (2 + length_in pc) count

-- the EPC that PC announces lies inside the EPC bank, which has StoredCRC besides
abbrev pub pc_fits : BankImage → Bool
pc_fits image = epc_fits (slice_index image.epc 0) (1 + length image.epc)

-- the banks of the image, with 0000h in the place of StoredCRC
abbrev pub image_banks : BankImage → Banks
image_banks image = record {
  reserved = image.kill / 2 ^ 16 ∷ image.kill % 2 ^ 16 ∷ image.access / 2 ^ 16 ∷ image.access % 2 ^ 16 ∷ [];
  epc = 0 ∷ image.epc;
  tid = image.tid;
  user = image.user;
}

-- the memory of a new tag
abbrev pub banks_of : BankImage → Banks
banks_of image = with_stored_crc (image_banks image)

-- the image with another last word of the EPC that PC announces, which stands behind it, and another last word of TID
abbrev pub with_last_words : BankImage → (last_of_epc last_of_tid : ℕ) → BankImage
with_last_words image last_of_epc last_of_tid = record image {
  epc = slice_set image.epc (length_in (slice_index image.epc 0)) last_of_epc;
  tid = slice_set image.tid (length image.tid - 1) last_of_tid;
}
