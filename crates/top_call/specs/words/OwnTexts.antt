-- Profile: the job of `--help` and `--version`: the text of HelpAndVersion.antt, whatever the input.
use Rattle.std.specs.Prelude.{◌≡◌, ℕ, false, List}
use Rattle.top_call.specs.Job.{Job}

-- a text of the program's own
abbrev pub text_job : List ℕ → Job
text_job own = record {
  input = false;
  allows = λ bytes. Unit {0};
  writes = λ bytes text. text ≡ own;
  refuses = λ bytes text. ⊥;
  promises = λ bytes text. text ≡ own;
}
