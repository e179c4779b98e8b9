-- What a change of one flag leaves alone.
use Rattle.std.specs.Prelude.{◌≡◌, ◌≢◌, ℕ, zero, suc, ◌<◌, ◌==◌, Bool, true, false, if◌then◌else◌, refl}
use Rattle.std.proofs.Common.{arith}
use Rattle.command_fields.specs.declared.choices.FlagName.{FlagName}
use Rattle.command_fields.specs.declared.choices.FlagName.TheVariants.{S0, S1, S2, S3, Sl}
use Rattle.session_flags.specs.declared.flags.Flags.{Flags}
use Rattle.session_flags.specs.declared.flags.Effect.{Effect}
use Rattle.session_flags.specs.declared.flags.Effect.TheVariants.{Negate}
use Rattle.session_flags.specs.Flags.{side_of, flags_after_effect, flags_after_inversion}

-- the name of a session's inventoried flag
abbrev pub flag_of : ℕ → FlagName
flag_of zero = S0
flag_of (suc zero) = S1
flag_of (suc (suc zero)) = S2
flag_of (suc (suc (suc _))) = S3

-- a change of another flag leaves a session's inventoried flag as it was
pub side_of-flags_after_effect : (flags : Flags) (target : FlagName) (effect : Effect) (session : ℕ) → session < 4 → target ≢ flag_of session → side_of (flags_after_effect flags target effect) session ≡ side_of flags session
side_of-flags_after_effect flags S0 effect zero known other = absurd (other refl)
side_of-flags_after_effect flags S1 effect zero known other = refl
side_of-flags_after_effect flags S2 effect zero known other = refl
side_of-flags_after_effect flags S3 effect zero known other = refl
side_of-flags_after_effect flags Sl effect zero known other = refl
side_of-flags_after_effect flags S0 effect (suc zero) known other = refl
side_of-flags_after_effect flags S1 effect (suc zero) known other = absurd (other refl)
side_of-flags_after_effect flags S2 effect (suc zero) known other = refl
side_of-flags_after_effect flags S3 effect (suc zero) known other = refl
side_of-flags_after_effect flags Sl effect (suc zero) known other = refl
side_of-flags_after_effect flags S0 effect (suc (suc zero)) known other = refl
side_of-flags_after_effect flags S1 effect (suc (suc zero)) known other = refl
side_of-flags_after_effect flags S2 effect (suc (suc zero)) known other = absurd (other refl)
side_of-flags_after_effect flags S3 effect (suc (suc zero)) known other = refl
side_of-flags_after_effect flags Sl effect (suc (suc zero)) known other = refl
side_of-flags_after_effect flags S0 effect (suc (suc (suc zero))) known other = refl
side_of-flags_after_effect flags S1 effect (suc (suc (suc zero))) known other = refl
side_of-flags_after_effect flags S2 effect (suc (suc (suc zero))) known other = refl
side_of-flags_after_effect flags S3 effect (suc (suc (suc zero))) known other = absurd (other refl)
side_of-flags_after_effect flags Sl effect (suc (suc (suc zero))) known other = refl
side_of-flags_after_effect flags target effect (suc (suc (suc (suc more)))) known other = absurd (omega arith)

-- so does an inversion of another session
pub side_of-flags_after_inversion : (flags : Flags) (changes session : ℕ) → changes < 4 → session < 4 → changes ≢ session → side_of (flags_after_inversion flags changes) session ≡ side_of flags session
side_of-flags_after_inversion flags zero zero small known other = absurd (other refl)
side_of-flags_after_inversion flags zero (suc zero) small known other = refl
side_of-flags_after_inversion flags zero (suc (suc zero)) small known other = refl
side_of-flags_after_inversion flags zero (suc (suc (suc zero))) small known other = refl
side_of-flags_after_inversion flags (suc zero) zero small known other = refl
side_of-flags_after_inversion flags (suc zero) (suc zero) small known other = absurd (other refl)
side_of-flags_after_inversion flags (suc zero) (suc (suc zero)) small known other = refl
side_of-flags_after_inversion flags (suc zero) (suc (suc (suc zero))) small known other = refl
side_of-flags_after_inversion flags (suc (suc zero)) zero small known other = refl
side_of-flags_after_inversion flags (suc (suc zero)) (suc zero) small known other = refl
side_of-flags_after_inversion flags (suc (suc zero)) (suc (suc zero)) small known other = absurd (other refl)
side_of-flags_after_inversion flags (suc (suc zero)) (suc (suc (suc zero))) small known other = refl
side_of-flags_after_inversion flags (suc (suc (suc zero))) zero small known other = refl
side_of-flags_after_inversion flags (suc (suc (suc zero))) (suc zero) small known other = refl
side_of-flags_after_inversion flags (suc (suc (suc zero))) (suc (suc zero)) small known other = refl
side_of-flags_after_inversion flags (suc (suc (suc zero))) (suc (suc (suc zero))) small known other = absurd (other refl)
side_of-flags_after_inversion flags (suc (suc (suc (suc more)))) session small known other = absurd (omega arith)
side_of-flags_after_inversion flags changes (suc (suc (suc (suc more)))) small known other = absurd (omega arith)

-- the selected flag changes with its own name alone
pub sl-flags_after_effect : (flags : Flags) (target : FlagName) (effect : Effect) → target ≢ Sl → (flags_after_effect flags target effect).sl ≡ flags.sl
sl-flags_after_effect flags S0 effect other = refl
sl-flags_after_effect flags S1 effect other = refl
sl-flags_after_effect flags S2 effect other = refl
sl-flags_after_effect flags S3 effect other = refl
sl-flags_after_effect flags Sl effect other = absurd (other refl)

sl-either : (b : Bool) (x y : Flags) (sl : Bool) → x.sl ≡ sl → y.sl ≡ sl → (if b then x else y).sl ≡ sl
sl-either true x y sl first second = first
sl-either false x y sl first second = second

pub sl-flags_after_inversion : (flags : Flags) (session : ℕ) → (flags_after_inversion flags session).sl ≡ flags.sl
sl-flags_after_inversion flags session =
    let keeps = λ (target : FlagName). flags_after_effect flags target Negate in
    let last = sl-either (session == 3) (keeps S3) flags flags.sl refl refl in
    let third = sl-either (session == 2) (keeps S2) (if session == 3 then keeps S3 else flags) flags.sl refl last in
    let second = sl-either (session == 1) (keeps S1) (if session == 2 then keeps S2 else (if session == 3 then keeps S3 else flags)) flags.sl refl third in
    sl-either (session == 0) (keeps S0) (if session == 1 then keeps S1 else (if session == 2 then keeps S2 else (if session == 3 then keeps S3 else flags))) flags.sl refl second
