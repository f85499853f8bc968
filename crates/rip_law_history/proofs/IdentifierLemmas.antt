-- The identifier that two words give has 128 bits.
use Rattle.std.proofs.Common.{ℕ, zero, suc, ◌+◌, ◌*◌, ◌/◌, ◌<◌, ◌^◌, ◌%◌, arith}
use Rattle.std.specs.Int.{byte_at}
use Rattle.rip_history.specs.Requests.{drawn_of}

digits_below : (b0 b1 b2 b3 b4 b5 b6 b7 b8 b9 b10 b11 b12 b13 b14 b15 : ℕ)
    → b0 < 256 → b1 < 256 → b2 < 256 → b3 < 256 → b4 < 256 → b5 < 256 → b6 < 256 → b7 < 256
    → b8 < 256 → b9 < 256 → b10 < 256 → b11 < 256 → b12 < 256 → b13 < 256 → b14 < 256 → b15 < 256
    → b0 * 256 ^ 15 + b1 * 256 ^ 14 + b2 * 256 ^ 13 + b3 * 256 ^ 12 + b4 * 256 ^ 11 + b5 * 256 ^ 10 + b6 * 256 ^ 9 + b7 * 256 ^ 8 + b8 * 256 ^ 7 + b9 * 256 ^ 6 + b10 * 256 ^ 5 + b11 * 256 ^ 4 + b12 * 256 ^ 3 + b13 * 256 ^ 2 + b14 * 256 ^ 1 + b15 < 2 ^ 128
digits_below b0 b1 b2 b3 b4 b5 b6 b7 b8 b9 b10 b11 b12 b13 b14 b15 h0 h1 h2 h3 h4 h5 h6 h7 h8 h9 h10 h11 h12 h13 h14 h15 = omega arith

rest_small : (x : ℕ) → x % 256 < 256
rest_small x = omega arith

byte_small : (k n : ℕ) → byte_at k n < 256
byte_small zero n = rest_small n
byte_small (suc k) n = rest_small (n / 256 ^ suc k)

with_version_small : (b : ℕ) → b % 16 + 4 * 16 < 256
with_version_small b = omega arith

with_variant_small : (b : ℕ) → b % 64 + 128 < 256
with_variant_small b = omega arith

pub drawn_fits : (first second third : ℕ) → (let d = drawn_of first second third in d.id) < 2 ^ 128
drawn_fits first second third =
    digits_below (byte_at 7 first) (byte_at 6 first) (byte_at 5 first) (byte_at 4 first) (byte_at 3 first) (byte_at 2 first)
    (byte_at 1 first % 16 + 4 * 16) (byte_at 0 first) (byte_at 7 second % 64 + 128) (byte_at 6 second) (byte_at 5 second) (byte_at 4 second)
    (byte_at 3 second) (byte_at 2 second) (byte_at 1 second) (byte_at 0 second)
    (byte_small 7 first) (byte_small 6 first) (byte_small 5 first) (byte_small 4 first) (byte_small 3 first) (byte_small 2 first)
    (with_version_small (byte_at 1 first)) (byte_small 0 first)
    (with_variant_small (byte_at 7 second)) (byte_small 6 second) (byte_small 5 second) (byte_small 4 second) (byte_small 3 second)
    (byte_small 2 second) (byte_small 1 second) (byte_small 0 second)

pub seed_fits : (first second third : ℕ) → (let d = drawn_of first second third in d.seed) < 2 ^ 32
seed_fits first second third = omega arith
