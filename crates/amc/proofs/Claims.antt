-- What specs/Law.antt claims of AMC holds.
use Rattle.base.proofs.Prelude.{◌≡◌, refl, sym, ap, ◌∙◌, ℕ, ◌*◌, ◌<◌}
use Rattle.carriers.specs.{declared.DataNumber.DataNumber, declared.Address.Address}
use Rattle.amc.specs.{declared.Shape.Shape, Map.address_of, Law.{OnePoint, AmcLaw}, Model.IsShape}
use Rattle.amc.proofs.{Tables.printed_list, Law.law}

point_there : (shape : Shape) → IsShape shape → (n cell : ℕ) → cell < 2352 → (o d : ℕ) → o < shape.symbols → d < 48 * n → OnePoint shape n cell o d
point_there shape six n cell range o d ho hd =
    let l = law shape six cell range n in
    let point = address_of shape cell o d in
    record {
      subchannel = point.subchannel;
      index = point.index;
      subchannel_lt = (l.names o d ho hd).subchannel_lt;
      index_lt = (l.names o d ho hd).index_lt;
      is_placed = l.forth o d ho hd;
      no_other = λ s m hs hm e.
          let same : record { subchannel = s; index = m } ≡ point = sym (l.back s m hs hm) ∙ ap (λ (x : DataNumber). address_of shape cell x.offset x.number) e in
          (ap (λ (a : Address). a.subchannel) same, ap (λ (a : Address). a.index) same);
      is_found = refl;
    }

pub amc_law : AmcLaw
amc_law =
    record {
      powers = printed_list;
      partition = λ shape six n cell range.
          let l = law shape six cell range n in
          record {
            offset_lt = l.offset_lt;
            number_lt = l.number_lt;
            back = l.back;
            one_point = point_there shape six n cell range;
          };
    }
