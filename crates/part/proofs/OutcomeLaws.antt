-- What each answer of Part says of the outcome.
use mathlib.Core.Path.{◌≡◌, refl, sym, ap, ap₂, ◌∙◌, subst}
use mathlib.Core.Bool.{Bool, not, ◌&&◌}
use mathlib.Core.List.{List}
use Prim.Native.Nat.{ℕ, suc, ◌-◌, ◌≤◌, ◌<◌}
use native.Mathlib.Omega.{arith}
use lib.ListN.{length, take, drop}
use lib.Seq.{take_all}
use lib.Dec.{leb}
use borrow.Author.Tests.{eq-eqb, ne_eqb, lt-ltb, le-ltb, lt-leb, le-leb}
use Rattle.outcomes.specs.Outcome.{accepted, refused, Reason, unless}
use Rattle.outcomes.proofs.Outcomes.{accepted≢refused, unless_stop, unless_pass, unless_none}
use Rattle.outcomes.proofs.Parts.{good_goes_on, bad_stands}
use Rattle.figures.specs.Figures.{at}
use Rattle.rooms.specs.Part.{Step, good, bad}
use Rattle.rooms.specs.Table.{Room, most_words}
use Rattle.rooms.specs.Limits.{checked}
use Rattle.rooms.specs.Rows.{OfRoom}
use Rattle.rooms.specs.declared.SheetRefusal.{SheetRefusal}
use Rattle.rooms.proofs.Reach.{prefix_decides, length_small}
use Rattle.std.proofs.Common.{Option, Some, None, Result, Ok, Err}
use Rattle.join.specs.Huts.{examined, HutOf}
use Rattle.join.specs.declared.Hut.{Hut}
use Rattle.join.proofs.HutLaws.{bad_examined}
use Rattle.part.specs.Crossing.{crossing}
use Rattle.part.specs.Outcome.{Parts, PartOutcome, parts_of, reasons, part_room, parting}
use Rattle.part.specs.Sides.{side_before, side_behind, behind_of, side_table, SideFits, side_words, first_across, Halved, Admits}
use Rattle.part.specs.declared.Side.{Side}
use Rattle.part.specs.declared.PartRefusal.{PartRefusal}
use Rattle.part.specs.declared.PartRefusal.TheVariants.{Table, NodesOutOfRange, ServersOutOfRange, LinkAcross, FirstTooShort, SecondTooShort}
use Rattle.part.proofs.SideLaws.{side_length, middle_at, table_before, table_behind, before_fits, behind_fits, before_small, behind_small, Tells, across_is}

-- ---- The reasons, one after the other

module _ (w : List ℕ) (n s first second : ℕ) where
  abbrev outcome : PartOutcome
  outcome = parting w n s first second

  pub table_bad : {q : SheetRefusal} → checked w 0 ≡ bad q → outcome ≡ refused (Table q)
  unfolding parting
  table_bad e = bad_stands Table (λ r. part_room (at w 0) r n s first second) e

  pub table_refused : {k : Result Hut SheetRefusal} {q : SheetRefusal} → k ≡ examined w → k ≡ Err q → outcome ≡ refused (Table q)
  table_refused d e = table_bad (bad_examined w d e)

  module _ {hut : Hut} (a : HutOf w hut) where
    abbrev parts : Parts
    parts = parts_of (at w 0) n s a.room

    abbrev why : List (Reason PartRefusal)
    why = reasons (at w 0) a.room n s first second

    pub table_good : outcome ≡ unless why parts
    unfolding parting part_room
    table_good = good_goes_on Table (λ r. part_room (at w 0) r n s first second) a.good_table

    nodes_are : hut.nodes ≡ length a.room.nodes
    nodes_are = ap (λ (x : Hut). x.nodes) a.is

    servers_are : hut.servers ≡ length a.room.servers
    servers_are = ap (λ (x : Hut). x.servers) a.is

    pub no_nodes : n ≡ 0 → outcome ≡ refused NodesOutOfRange
    no_nodes h = table_good ∙ unless_stop _ _ parts (ap (λ (t : Bool). not (t && leb n (length a.room.nodes - 1))) (lt-leb 1 n (omega arith)))

    pub many-nodes : 1 ≤ n → hut.nodes ≤ n → outcome ≡ refused NodesOutOfRange
    many-nodes some h =
        table_good ∙ unless_stop _ _ parts (ap₂ (λ (t u : Bool). not (t && u)) (le-leb 1 n some) (lt-leb n (length a.room.nodes - 1) (omega (arith, nodes_are))))

    module _ (some : 1 ≤ n) (few : n < hut.nodes) where
      pass_nodes : outcome ≡ unless (drop 1 why) parts
      pass_nodes =
          table_good ∙ unless_pass _ _ parts (ap₂ (λ (t u : Bool). not (t && u)) (le-leb 1 n some) (le-leb n (length a.room.nodes - 1) (omega (arith, nodes_are))))

      pub many-servers : hut.servers < s → outcome ≡ refused ServersOutOfRange
      many-servers h = pass_nodes ∙ unless_stop _ _ parts (lt-ltb (length a.room.servers) s (omega (arith, servers_are)))

      module _ (few_servers : s ≤ hut.servers) where
        pass_servers : outcome ≡ unless (drop 2 why) parts
        pass_servers = pass_nodes ∙ unless_pass _ _ parts (le-ltb (length a.room.servers) s (omega (arith, servers_are)))

        link_across : {index : ℕ} → Tells (Some index) (crossing (at w 0) n s a.room) → outcome ≡ refused (LinkAcross index)
        link_across {index} is =
            pass_servers ∙ unless_stop _ _ parts (ap not (ne_eqb (crossing (at w 0) n s a.room) 0 (λ e. absurd (omega (arith, is.0, is.1, e))))) ∙ ap (λ (k : ℕ). refused (LinkAcross k)) is.0

        module _ (none : Tells None (crossing (at w 0) n s a.room)) where
          pass_links : outcome ≡ unless (drop 3 why) parts
          pass_links = pass_servers ∙ unless_pass _ _ parts (ap not (eq-eqb (crossing (at w 0) n s a.room) 0 none))

          module _ {before : ℕ} (long : before ≡ length parts.first) where
            first_short : first < before → outcome ≡ refused (FirstTooShort before)
            first_short h = pass_links ∙ unless_stop _ _ parts (lt-ltb first (length parts.first) (omega arith)) ∙ ap (λ (k : ℕ). refused (FirstTooShort k)) (sym long)

            module _ (fits : before ≤ first) where
              pass_first : outcome ≡ unless (drop 4 why) parts
              pass_first = pass_links ∙ unless_pass _ _ parts (le-ltb first (length parts.first) (omega arith))

              module _ {behind : ℕ} (more : behind ≡ length parts.second) where
                second_short : second < behind → outcome ≡ refused (SecondTooShort behind)
                second_short h = pass_first ∙ unless_stop _ _ parts (lt-ltb second (length parts.second) (omega arith)) ∙ ap (λ (k : ℕ). refused (SecondTooShort k)) (sym more)

                pub both_fit : behind ≤ second → outcome ≡ accepted parts
                both_fit h = pass_first ∙ unless_pass _ _ parts (le-ltb second (length parts.second) (omega arith)) ∙ unless_none parts

-- ---- Both sides

-- What the count of a side's words wants.
pub words_fit : (w : List ℕ) {side : Side} → SideFits w side → (side.top ≤ side.bottom) × (side.start ≤ side.end) × (side.bottom < 4294967296) × (side.end < 4294967296)
words_fit w fits =
    (fits.node_words_there.0, fits.server_words_there.0, omega (arith, fits.node_words_there.1, fits.long), omega (arith, fits.server_words_there.1, fits.long))

-- A cut of a good table after so many nodes and servers, with both its sides.
pub record Cutting (w : List ℕ) (hut : Hut) (n s : ℕ) (one two : Side) : Type 0 where
  pub good_hut : HutOf w hut
  pub some : 1 ≤ n
  pub few : n < hut.nodes
  pub few_servers : s ≤ hut.servers
  pub one_is : OfRoom w (λ room. one ≡ side_before (at w 0) n s room)
  pub two_is : two ≡ behind_of hut one

-- The side before it is within the table, by what is kept of the table.
pub one_within : {w : List ℕ} {hut : Hut} (a : HutOf w hut) {n s : ℕ} → n < hut.nodes → s ≤ hut.servers → {one : Side}
    → OfRoom w (λ room. one ≡ side_before (at w 0) n s room) → (one.nodes ≤ hut.nodes) × (one.servers ≤ hut.servers) × (one.nodes < 4294967296)
one_within {w} {hut} a {n} {s} few few_servers {one} one_is =
    let is : one ≡ side_before (at w 0) n s a.room = one_is a.room a.end a.good_table in
    let nodes = ap (λ (x : Side). x.nodes) is in
    let servers = ap (λ (x : Side). x.servers) is in
    let fewer : n ≤ length a.room.nodes = omega (arith, ap (λ (x : Hut). x.nodes) a.is) in
    let within : s ≤ length a.room.servers = omega (arith, ap (λ (x : Hut). x.servers) a.is) in
    (omega arith, omega arith, omega (arith, (before_fits w a.room a.end a.good_table n s fewer within).nodes))

module _ {w : List ℕ} {hut : Hut} {n s : ℕ} {one two : Side} (cut : Cutting w hut n s one two) where
  abbrev a : HutOf w hut
  a = cut.good_hut

  abbrev r : Room
  r = cut.good_hut.room

  fewer : n ≤ length r.nodes
  fewer = omega (arith, ap (λ (x : Hut). x.nodes) cut.good_hut.is, cut.few)

  within : s ≤ length r.servers
  within = omega (arith, ap (λ (x : Hut). x.servers) cut.good_hut.is, cut.few_servers)

  before_is : one ≡ side_before (at w 0) n s r
  before_is = cut.one_is r a.end a.good_table

  behind_is : two ≡ side_behind (length w) (at w 0) n s r
  behind_is = cut.two_is ∙ ap₂ behind_of a.is before_is
      ∙ ap (λ (m : ℕ). record {
        version = at w 0;
        nodes = length r.nodes - n;
        top = (side_before (at w 0) n s r).bottom;
        bottom = m;
        servers = length r.servers - s;
        start = (side_before (at w 0) n s r).end;
        end = length w;
        down = n;
      }) (middle_at w r a.end a.good_table)

  pub both_fit_in : SideFits w one × SideFits w two
  both_fit_in = (
    subst (SideFits w) (sym before_is) (before_fits w r a.end a.good_table n s fewer within),
    subst (SideFits w) (sym behind_is) (behind_fits w r a.end a.good_table n s fewer within),
  )

  crossing_is : {found : Option ℕ} → found ≡ first_across one two w → Tells found (crossing (at w 0) n s r)
  crossing_is e =
      subst (λ (found : Option ℕ). Tells found (crossing (at w 0) n s r)) (sym (e ∙ ap₂ (λ (x y : Side). first_across x y w) before_is behind_is))
      (across_is w r a.end a.good_table n s fewer within)

  first_table : side_table one w ≡ (parts_of (at w 0) n s r).first
  first_table = ap (λ (x : Side). side_table x w) before_is ∙ table_before w r a.end a.good_table n s fewer within

  second_table : side_table two w ≡ (parts_of (at w 0) n s r).second
  second_table = ap (λ (x : Side). side_table x w) behind_is ∙ table_behind w r a.end a.good_table n s fewer within

  first_long : {k : ℕ} → k ≡ side_words one → k ≡ length (parts_of (at w 0) n s r).first
  first_long e = e ∙ sym (side_length w one both_fit_in.0) ∙ ap length first_table

  second_long : {k : ℕ} → k ≡ side_words two → k ≡ length (parts_of (at w 0) n s r).second
  second_long e = e ∙ sym (side_length w two both_fit_in.1) ∙ ap length second_table

  -- ---- What it comes to, for outputs of so many words

  module _ (first second : ℕ) where
    pub cut_across : {index : ℕ} → Some index ≡ first_across one two w → parting w n s first second ≡ refused (LinkAcross index)
    cut_across is = link_across w n s first second a cut.some cut.few cut.few_servers (crossing_is is)

    module _ (none : None ≡ first_across one two w) {before : ℕ} (b : before ≡ side_words one) where
      pub cut_first_short : first < before → parting w n s first second ≡ refused (FirstTooShort before)
      cut_first_short h = first_short w n s first second a cut.some cut.few cut.few_servers (crossing_is none) (first_long b) h

      module _ (fits : before ≤ first) {behind : ℕ} (c : behind ≡ side_words two) where
        pub cut_second_short : second < behind → parting w n s first second ≡ refused (SecondTooShort behind)
        cut_second_short h = second_short w n s first second a cut.some cut.few cut.few_servers (crossing_is none) (first_long b) fits (second_long c) h

        -- It passes every check.
        pub halved : behind ≤ second → Halved w (parting w n s first second) first second one two
        halved more = record {
          is = both_fit w n s first second a cut.some cut.few cut.few_servers (crossing_is none) (first_long b) fits (second_long c) more
              ∙ (λ i. accepted (record { first = sym first_table i; second = sym second_table i }));
          first_fits = both_fit_in.0;
          second_fits = both_fit_in.1;
          first_space = (subst (λ (x : Side). side_words x ≤ most_words) (sym before_is) (before_small w r a.end a.good_table n s fewer within), omega arith);
          second_space = (subst (λ (x : Side). side_words x ≤ most_words) (sym behind_is) (behind_small w r a.end a.good_table n s fewer within), omega arith);
        }

-- ---- The first words of a longer list decide

pub admits_cut : (k : ℕ) (w : List ℕ) (n s first second : ℕ) → suc most_words ≤ k → (a : Result (Side × Side) PartRefusal)
    → Admits (take k w) (parting (take k w) n s first second) first second a → Admits w (parting w n s first second) first second a
admits_cut k w n s first second h a = go (checked w 0) refl a
  where
    go : (t : Step Room) → checked w 0 ≡ t → (a : Result (Side × Side) PartRefusal)
        → Admits (take k w) (parting (take k w) n s first second) first second a → Admits w (parting w n s first second) first second a
    go (good r end) e a = subst (λ (l : List ℕ). Admits l (parting l n s first second) first second a) (take_all k w (omega (arith, length_small w r end e)))
    go (bad q) e (Ok sides) = λ d. absurd (accepted≢refused (sym d.is ∙ table_bad (take k w) n s first second (prefix_decides w k h ∙ e)))
    go (bad q) e (Err p) = λ d. table_bad w n s first second e ∙ sym (table_bad (take k w) n s first second (prefix_decides w k h ∙ e)) ∙ d
