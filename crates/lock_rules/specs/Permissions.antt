-- 6.3.2.11.3.5 Lock, the table of the functions of the pairs: what a tag lets an interrogator do with a field.
use Rattle.std.specs.Prelude.{Bool, true, false}
use Rattle.lock_rules.specs.declared.fields_and_levels.Field.{Field}
use Rattle.lock_rules.specs.declared.fields_and_levels.Field.TheVariants.{KillWord, AccessWord, Epc, Tid, User}
use Rattle.lock_rules.specs.declared.fields_and_levels.Level.{Level}
use Rattle.lock_rules.specs.declared.fields_and_levels.Level.TheVariants.{Opened, Secured}
use Rattle.lock_rules.specs.declared.locks.Pair.{Pair}
use Rattle.lock_rules.specs.declared.locks.Locks.{Locks}

-- what is asked for
pub data Use : Type 0 where
  Reading : Use
  Writing : Use

-- the pair of lock bits of a field of the tag's memory
abbrev pub lock_pair_of : Locks → Field → Pair
lock_pair_of locks KillWord = locks.kill_word
lock_pair_of locks AccessWord = locks.access_word
lock_pair_of locks Epc = locks.epc
lock_pair_of locks Tid = locks.tid
lock_pair_of locks User = locks.user

-- the table of pairs, the write bit first: 00 and 01 allow in open and secured, 10 in secured only, 11 never
abbrev pub allows : Bool → Bool → Level → Bool
allows false false level = true
allows false true level = true
allows true false Opened = false
allows true false Secured = true
allows true true level = false

-- whether a pair of lock bits allows a use in open or in secured
abbrev pub pair_allows : Pair → Level → Bool
pair_allows pair level = allows pair.write_bit pair.permalock level

-- a write goes by the pair of its field, and so does the reading of a password; the other banks are always readable
abbrev pub may : Locks → Field → Level → Use → Bool
may locks field level Writing = pair_allows (lock_pair_of locks field) level
may locks KillWord level Reading = pair_allows locks.kill_word level
may locks AccessWord level Reading = pair_allows locks.access_word level
may locks Epc level Reading = true
may locks Tid level Reading = true
may locks User level Reading = true
