-- A slot's shape: what follows of its two numbers from their product alone.
use Rattle.base.proofs.Prelude.{◌≡◌, sym, ap, ◌∙◌, ℕ, zero, suc, ◌-◌, ◌*◌, ◌/◌, ◌%◌, ◌<◌, ◌≤◌, mul-le-mul, arith}
use native.Mathlib.Nat.{mul_comm, pos_of_ne-zero, mul-div-mul_right, mod-eq-sub-div-mul, div-mul-le_self, div-le_self}
use Rattle.amc.specs.{declared.Shape.Shape, Model.IsShape}

-- one of two numbers whose product is six
part_pos : (x y : ℕ) → x * y ≡ 6 → 0 < x
part_pos x y six = pos_of_ne-zero (λ e. let z : 0 * y ≡ 6 = rw e at six in omega arith)

part_few : (x y : ℕ) → x * y ≡ 6 → x ≤ 6
part_few x y six = omega (arith, six, mul-le-mul {n₁ = x} {m₁ = 1} {n₂ = x} {m₂ = y} (omega arith) (part_pos y x (mul_comm y x ∙ six)))

-- more than three leave but one
part_six : (x y : ℕ) → x * y ≡ 6 → 3 < x → x ≡ 6
part_six x zero six h = absurd (omega arith)
part_six x (suc zero) six h = omega arith
part_six x (suc (suc y)) six h = absurd (omega (arith, six, mul-le-mul {n₁ = x} {m₁ = 2} {n₂ = x} {m₂ = suc (suc y)} (omega arith) (omega arith)))

module _ (shape : Shape) (six : IsShape shape) where
  pub symbols_six : shape.symbols * shape.bins ≡ 6
  symbols_six = mul_comm shape.symbols shape.bins ∙ six

  pub bins_pos : 0 < shape.bins
  bins_pos = part_pos shape.bins shape.symbols six

  pub symbols_pos : 0 < shape.symbols
  symbols_pos = part_pos shape.symbols shape.bins symbols_six

  pub bins_few : shape.bins ≤ 6
  bins_few = part_few shape.bins shape.symbols six

  pub symbols_few : shape.symbols ≤ 6
  symbols_few = part_few shape.symbols shape.bins symbols_six

  -- there are 1, 2, 3 or 6 symbols
  pub symbols_are : (shape.symbols ≡ 1 → ⊥) → (shape.symbols ≡ 2 → ⊥) → (shape.symbols ≡ 3 → ⊥) → shape.symbols ≡ 6
  symbols_are n₁ n₂ n₃ = part_six shape.symbols shape.bins symbols_six (omega (arith, symbols_pos))

  -- a quotient by the bins is one by six
  pub by_six : (w : ℕ) → w * shape.symbols / 6 ≡ w / shape.bins
  by_six w = ap (λ (x : ℕ). w * shape.symbols / x) (sym six) ∙ mul-div-mul_right w shape.bins symbols_pos

  -- a bin's number stays small
  pub product_few : (w : ℕ) → w < 8192 → w * shape.symbols ≤ 49152
  product_few w h = mul-le-mul {n₁ = w} {m₁ = shape.symbols} {n₂ = 8192} {m₂ = 6} (omega arith) symbols_few

  pub quotient_few : (w : ℕ) → w < 6 → w / shape.bins < 6
  quotient_few w h = omega (arith, div-le_self w shape.bins)

  -- the bin in its symbol, as the code finds it
  pub rest_six : (w q : ℕ) → q ≡ w / shape.bins → w - q * shape.bins ≡ w % shape.bins
  rest_six w q e = ap (λ (x : ℕ). w - x * shape.bins) e ∙ sym (mod-eq-sub-div-mul w shape.bins)

  pub taken_le : (w q : ℕ) → q ≡ w / shape.bins → q * shape.bins ≤ w
  taken_le w q e = rw e (div-mul-le_self w shape.bins)

  pub before_few : (a : ℕ) → a < 65536 → a * shape.bins ≤ 393216
  before_few a h = mul-le-mul {n₁ = a} {m₁ = shape.bins} {n₂ = 65536} {m₂ = 6} (omega arith) bins_few

-- what the code's steps by a shape need
pub ruleset by_shape = (bins_few, symbols_few, product_few, before_few, by_six, quotient_few, rest_six, taken_le)
