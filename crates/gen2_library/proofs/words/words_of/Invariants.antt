use Rattle.std.proofs.Common.{◌≡◌, ◌++◌, All, IsUtf8}
use Rattle.text_fields.specs.Lines.{fields_of}
use Rattle.top_call.specs.Form.{texts}
use Rattle.gen2_library.proofs.words.words_of.Given as goal

-- the words and the fields that are left are all fields, and these are UTF-8
abbrev pub invariant-loop-field : goal.invariant-loop-field
invariant-loop-field l = (texts l.words.items ++ l.fields ≡ fields_of l.text) × All IsUtf8 l.fields
