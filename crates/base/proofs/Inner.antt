-- The inner permutation, of a major group of PUSC downlink and of a symbol of FUSC: from `turns` indices of each of `size` subchannels to data numbers, one for one.
use Rattle.base.proofs.Prelude.{◌≡◌, ap, ap₂, ◌∙◌, ℕ, ◌+◌, ◌*◌, ◌/◌, ◌%◌, ◌<◌, div-add-mod', mod-lt, div-lt_iff_lt-mul, digits_div, digits_mod}
use Rattle.base.proofs.{Prelude.digits_lt, Perm.{Perm, rotation, compose}}
use Rattle.base.specs.Steps.{rotate, unrotate}

-- With n = (k+13s) mod turns: data number = size·n + (base[(n+s) mod size] + cell) mod size.
abbrev pub inner_number : (turns size : ℕ) (base : ℕ → ℕ) (cell s k : ℕ) → ℕ
inner_number turns size base cell s k =
    let n = (k + 13 * s) % turns in
    n * size + (base ((s + n) % size) + cell) % size

-- The reverse: the subchannel and the index of a data number.
abbrev pub inner_subchannel : (size : ℕ) (inverse : ℕ → ℕ) (cell d : ℕ) → ℕ
inner_subchannel size inverse cell d = unrotate size (d / size) (inverse (unrotate size cell (d % size)))

abbrev pub inner_index : (turns size : ℕ) (inverse : ℕ → ℕ) (cell d : ℕ) → ℕ
inner_index turns size inverse cell d = unrotate turns (13 * inner_subchannel size inverse cell d) (d / size)

-- data numbers, and the subchannels and indices that they have, one for one
pub record Inner (turns size : ℕ) (number : ℕ → ℕ → ℕ) (subchannel index : ℕ → ℕ) : Type 0 where
  pub number_lt : (s k : ℕ) → s < size → k < turns → number s k < turns * size
  pub subchannel_back : (s k : ℕ) → s < size → k < turns → subchannel (number s k) ≡ s
  pub index_back : (s k : ℕ) → s < size → k < turns → index (number s k) ≡ k
  pub subchannel_lt : (d : ℕ) → subchannel d < size
  pub index_lt : (d : ℕ) → index d < turns
  pub forth : (d : ℕ) → d < turns * size → number (subchannel d) (index d) ≡ d

module _ (turns size : ℕ) {base inverse : ℕ → ℕ} (perm : Perm size base inverse) (cell : ℕ) (turns-pos : 0 < turns) (size_pos : 0 < size) where
  -- subchannel s and its place among the size data numbers of n
  abbrev turned : ℕ → ℕ → ℕ
  turned n s = (base ((s + n) % size) + cell) % size

  abbrev unturned : ℕ → ℕ → ℕ
  unturned n x = unrotate size n (inverse (unrotate size cell x))

  turn : (n : ℕ) → Perm size (turned n) (unturned n)
  turn n = compose (compose (rotation size n size_pos) perm) (rotation size cell size_pos)

  step : (s : ℕ) → Perm turns (rotate turns (13 * s)) (unrotate turns (13 * s))
  step s = rotation turns (13 * s) turns-pos

  abbrev subchannel : ℕ → ℕ
  subchannel d = inner_subchannel size inverse cell d

  abbrev index : ℕ → ℕ
  index d = inner_index turns size inverse cell d

  module _ (s k : ℕ) (hs : s < size) (hk : k < turns) where
    abbrev n : ℕ
    n = rotate turns (13 * s) k

    abbrev d : ℕ
    d = inner_number turns size base cell s k

    data_turn : d / size ≡ n
    data_turn = digits_div n ((turn n).to_lt s hs)

    subchannel_back : subchannel d ≡ s
    subchannel_back = ap₂ unturned data_turn (digits_mod n ((turn n).to_lt s hs)) ∙ (turn n).back s hs

    index_back : index d ≡ k
    index_back = ap₂ (λ (x y : ℕ). unrotate turns (13 * x) y) subchannel_back data_turn ∙ (step s).back k hk

  subchannel_lt : (d : ℕ) → subchannel d < size
  subchannel_lt d = (turn (d / size)).from_lt (d % size) (mod-lt d size_pos)

  data_forth : (d : ℕ) → d < turns * size → inner_number turns size base cell (subchannel d) (index d) ≡ d
  data_forth d h =
      ap (λ (n : ℕ). n * size + turned n (subchannel d)) ((step (subchannel d)).forth (d / size) ((div-lt_iff_lt-mul size_pos).1 h))
      ∙ ap (λ (x : ℕ). d / size * size + x) ((turn (d / size)).forth (d % size) (mod-lt d size_pos))
      ∙ div-add-mod' d size

  pub inner : Inner turns size (inner_number turns size base cell) subchannel index
  inner =
      record {
        number_lt = λ s k hs hk. digits_lt ((step s).to_lt k hk) ((turn (rotate turns (13 * s) k)).to_lt s hs);
        subchannel_back = subchannel_back;
        index_back = index_back;
        subchannel_lt = subchannel_lt;
        index_lt = λ d. mod-lt _ turns-pos;
        forth = data_forth;
      }
