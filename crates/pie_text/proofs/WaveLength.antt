-- How many intervals the wave of a frame has (6.3.1.2.3, 6.3.1.2.8).
use Rattle.std.proofs.Common.{◌≡◌, ◌+◌, ◌*◌, ◌≤◌, Bool, List, [], ◌∷◌, length, refl, arith, length-append}
use Rattle.std.specs.List.{flat_map}
use Rattle.pie_line.specs.Link.{LinkValue}
use Rattle.pie_line.specs.Pie.{header_of, interval_pair, sum_of, wave_of}
use Rattle.pie_line.specs.declared.frame.Lead.{Lead}
use Rattle.pie_line.specs.declared.frame.Lead.TheVariants.{Preamble, FrameSync}

-- two intervals a bit
length-symbols : (link : LinkValue) (bits : List Bool) → length (flat_map (λ bit. interval_pair link (sum_of link bit)) bits) ≡ 2 * length bits
length-symbols link [] = refl
length-symbols link (bit ∷ bits) = omega (arith, length-symbols link bits)

length-header : (link : LinkValue) (lead : Lead) → length (header_of link lead) ≤ 6
length-header link Preamble = omega arith
length-header link FrameSync = omega arith

-- the delimiter, the header and the bits
pub length-wave : (link : LinkValue) (lead : Lead) (bits : List Bool) → (1 ≤ length (wave_of link lead bits)) × (length (wave_of link lead bits) ≤ 7 + 2 * length bits)
length-wave link lead bits =
    let whole = length-append (header_of link lead) (flat_map (λ bit. interval_pair link (sum_of link bit)) bits) in
    (omega arith, omega (arith, whole, length-header link lead, length-symbols link bits))
