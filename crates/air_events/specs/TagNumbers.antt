-- Profile: how many tags a population has at most. They are numbered from 0.
use Rattle.std.specs.Prelude.{ℕ}

abbrev pub most_tags : ℕ
most_tags = 4096
