-- GS1 Tag Data Standard, SGTIN: a serialised trade item number is a filter value, a GS1 company prefix, an item
-- reference that begins with the indicator digit, and a serial number.
use Rattle.std.specs.Prelude.{ℕ, ◌-◌, ◌^◌, ◌<◌, ◌≤◌}
use Rattle.epc_sgtin.specs.declared.value.SgtinRefusal.{SgtinRefusal}
use Rattle.epc_sgtin.specs.declared.value.SgtinRefusal.TheVariants.{Filter, Digits, Company, Item, Serial}

-- what a contract sees of an SGTIN: the company as a number, with how many digits it is written, and the item with 13
-- less these
pub record SgtinValue : Type 0 where
  pub filter : ℕ
  pub digits : ℕ
  pub company : ℕ
  pub item : ℕ
  pub serial : ℕ

-- how many digits the company and the item of an SGTIN have together
abbrev pub all_digits : ℕ
all_digits = 13

-- a filter value has three bits
abbrev pub IsFilter : ℕ → Type 0
IsFilter filter = filter ≤ 7

-- a company prefix is written with 6 to 12 digits
abbrev pub IsCompanyDigits : ℕ → Type 0
IsCompanyDigits digits = (6 ≤ digits) × (digits ≤ 12)

-- so many digits write the company
abbrev pub IsCompany : ℕ → ℕ → Type 0
IsCompany digits company = company < 10 ^ digits

-- the digits that these leave write the item
abbrev pub IsItem : ℕ → ℕ → Type 0
IsItem digits item = item < 10 ^ (all_digits - digits)

-- a serial number has 38 bits
abbrev pub IsSerial : ℕ → Type 0
IsSerial serial = serial < 2 ^ 38

-- each part is in its range
pub record IsLegalSgtin (sgtin : SgtinValue) : Type 0 where
  pub filter_range : IsFilter sgtin.filter
  pub digits_range : IsCompanyDigits sgtin.digits
  pub company_range : IsCompany sgtin.digits sgtin.company
  pub item_range : IsItem sgtin.digits sgtin.item
  pub serial_range : IsSerial sgtin.serial

-- the first part that is out of its range
abbrev pub IsFirstWrong : SgtinRefusal → SgtinValue → Type 0
IsFirstWrong Filter sgtin = ¬ IsFilter sgtin.filter
IsFirstWrong Digits sgtin = IsFilter sgtin.filter × (¬ IsCompanyDigits sgtin.digits)
IsFirstWrong Company sgtin = IsFilter sgtin.filter × IsCompanyDigits sgtin.digits × (¬ IsCompany sgtin.digits sgtin.company)
IsFirstWrong Item sgtin =
    IsFilter sgtin.filter × IsCompanyDigits sgtin.digits × IsCompany sgtin.digits sgtin.company × (¬ IsItem sgtin.digits sgtin.item)
IsFirstWrong Serial sgtin =
    IsFilter sgtin.filter × IsCompanyDigits sgtin.digits × IsCompany sgtin.digits sgtin.company × IsItem sgtin.digits sgtin.item
    × (¬ IsSerial sgtin.serial)
