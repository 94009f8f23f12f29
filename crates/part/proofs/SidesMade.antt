-- The sides as code makes them, and their tables put together and stored.
use Rattle.std.proofs.Common.{Result, Ok, Err}
use mathlib.Core.Path.{◌≡◌, refl, sym, ap, ap₂, ◌∙◌, subst}
use mathlib.Core.Bool.{Bool, true, false}
use mathlib.Core.List.{List, [], ◌∷◌, ◌++◌}
use Prim.Native.Nat.{ℕ, suc, ◌+◌, ◌-◌, ◌*◌, ◌/◌, ◌≤◌, ◌<◌, min}
use native.Mathlib.Omega.{arith}
use lib.ListN.{length, take, drop, set, length-set}
use lib.Seq.{sets, take_all}
use Rattle.outcomes.specs.Outcome.{refused, after}
use Rattle.figures.specs.Figures.{at}
use Rattle.words.specs.Bytes.{words_of, bytes_of}
use Rattle.words.proofs.Bytes.{length-words_of, take-loaded}
use Rattle.calls.specs.Call.{answered, told_numbers}
use Rattle.calls.proofs.Calls.{call_done}
use Rattle.rooms.specs.Table.{most_words, form_of, node_words}
use Rattle.rooms.specs.Words.{row_words, words_of_node}
use Rattle.rooms.specs.Rows.{OfRoom}
use Rattle.rooms.proofs.Accepted as rooms
use Rattle.rooms.proofs.Reach.{length_small}
use Rattle.join.specs.Huts.{HutOf}
use Rattle.join.specs.Pieces.{renumbered_every, renumbered_cords, piece, MayPut, PiecePut}
use Rattle.join.specs.declared.Hut.{Hut}
use Rattle.join.proofs.TableWords.{middle_is, length_are}
use Rattle.join.proofs.PieceLaws.{put_word, put_both}
use Rattle.join.proofs.Together.{ends_nodes}
use Rattle.part.specs.Crossing.{servers_start}
use Rattle.part.specs.Outcome.{PartOutcome, parting, part_refusal_number, part_refusal_place, part_numbers}
use Rattle.part.specs.Call.{OutcomeCall}
use Rattle.part.specs.Sides.{span, side_before, side_table, SideFits, side_words, Halved, Admits, Stored}
use Rattle.part.specs.declared.Side.{Side}
use Rattle.part.specs.declared.Counts.{Counts}
use Rattle.part.specs.declared.PartRefusal.{PartRefusal}
use Rattle.part.proofs.SideLaws.{side_length, middle_at, servers-end-at}
use Rattle.part.proofs.OutcomeLaws.{admits_cut}

-- ---- The side before a cut

width_small : (p : Bool) (nodes : ℕ) → nodes ≤ 512 → node_words p * nodes ≤ 1536
width_small true nodes h = omega arith
width_small false nodes h = omega arith

module _ {w : List ℕ} {hut : Hut} (a : HutOf w hut) where
  middle_of : hut.middle ≡ 2 + length (row_words (words_of_node (form_of (at w 0)).percents) a.room.nodes)
  middle_of = ap (λ (x : Hut). x.middle) a.is ∙ middle_is w a.room a.end a.good_table

  -- Its servers start within the table, which is short.
  pub starts_within : (hut.middle + 1 ≤ length w) × (length w ≤ most_words)
  starts_within = (omega (arith, middle_of, length_are w a.room a.end a.good_table), length_small w a.room a.end a.good_table)

  module _ {nodes width : ℕ} (few : nodes ≤ hut.nodes) (width_is : width ≡ node_words (form_of hut.version).percents) where
    pub nodes_small : width * nodes ≤ 1536
    nodes_small =
        let most = (rooms.accepted w a.room a.end a.good_table).few_nodes in
        subst (λ (k : ℕ). k * nodes ≤ 1536) (sym width_is) (width_small (form_of hut.version).percents nodes (omega (arith, ap (λ (x : Hut). x.nodes) a.is)))

    pub before_made : {servers last : ℕ} → last ≡ hut.middle + 1 + span servers (drop (hut.middle + 1) w)
        → OfRoom w (λ room. record {
          version = hut.version;
          nodes = nodes;
          top = 2;
          bottom = 2 + width * nodes;
          servers = servers;
          start = hut.middle + 1;
          end = last;
          down = 0;
        } ≡ side_before (at w 0) nodes servers room)
    before_made {servers} {last} ends room end e =
        let version : hut.version ≡ at w 0 = ap (λ (x : Hut). x.version) a.is in
        let start : hut.middle + 1 ≡ servers_start (at w 0) room = ap (λ (k : ℕ). k + 1) (ap (λ (x : Hut). x.middle) a.is ∙ middle_at w room end e) in
        λ i. record {
          version = version i;
          nodes = nodes;
          top = 2;
          bottom = ap (λ (k : ℕ). 2 + k * nodes) (width_is ∙ ap (λ (v : ℕ). node_words (form_of v).percents) version) i;
          servers = servers;
          start = start i;
          end = (ends ∙ ap (λ (k : ℕ). k + span servers (drop k w)) start ∙ servers-end-at w room end e servers) i;
          down = 0;
        }

-- ---- A side's table, put together

module _ (bytes : List ℕ) (side : Side) (fits : SideFits (words_of bytes) side) (list : List ℕ) (space : side_words side ≤ length list) where
  abbrev w : List ℕ
  w = words_of bytes

  pub may_nodes : {list₁ : List ℕ} → length list₁ ≡ length list → MayPut bytes side.top side.bottom list₁ 2
  may_nodes e = record {
    ordered = fits.node_words_there.0;
    there = omega (arith, length-words_of bytes, fits.node_words_there.1);
    space = omega (arith, fits.node_words_there.0);
  }

  pub middle_ends : {list₁ list₂ : List ℕ} {middle : ℕ} (gap down : ℕ)
      → PiecePut list₁ 2 (renumbered_every gap 0 down 0 (piece side.top side.bottom w)) list₂ middle → middle ≡ 2 + (side.bottom - side.top)
  middle_ends gap down p = ends_nodes w side.top side.bottom fits.node_words_there.1 gap 0 down p

  pub may_servers : {list₁ : List ℕ} {at : ℕ} → length list₁ ≡ length list → at ≡ 3 + (side.bottom - side.top) → MayPut bytes side.start side.end list₁ at
  may_servers e is = record {
    ordered = fits.server_words_there.0;
    there = omega (arith, length-words_of bytes, fits.server_words_there.1);
    space = omega (arith, fits.server_words_there.0);
  }

  pub side_put : {width nodes servers middle end : ℕ} (list₁ : List ℕ) {list₂ : List ℕ} → width ≡ node_words (form_of side.version).percents → nodes ≡ side.nodes
      → servers ≡ side.servers → middle < length list₁
      → PiecePut (set (set list 0 side.version) 1 nodes) 2 (renumbered_every (width - 1) 0 side.down 0 (piece side.top side.bottom w)) list₁ middle
      → PiecePut (set list₁ middle servers) (middle + 1) (renumbered_cords 0 side.down 0 (piece side.start side.end w)) list₂ end
      → PiecePut list 0 (side_table side w) list₂ end
  side_put {width} {nodes} {servers} {middle} {end} list₁ {list₂} width_is nodes_are servers_are more a d =
      let v = put_word list 0 side.version (omega arith) in
      let n = put_word (set list 0 side.version) 1 nodes (omega (arith, length-set list 0 side.version)) in
      let k : PiecePut list₁ middle (servers ∷ []) (set list₁ middle servers) (middle + 1)
      = subst (λ (e : ℕ). PiecePut list₁ middle (servers ∷ []) (set list₁ middle servers) e) (let q : suc middle ≡ middle + 1 = omega arith in q) (put_word list₁ middle servers more) in
      subst (λ (l : List ℕ). PiecePut list 0 l list₂ end)
      (λ i. side.version ∷ nodes_are i ∷ (renumbered_every (width_is i - 1) 0 side.down 0 (piece side.top side.bottom w)
      ++ (servers_are i ∷ renumbered_cords 0 side.down 0 (piece side.start side.end w))))
      (put_both v (put_both n (put_both a (put_both k d))))

-- Put together, it is stored whole.
pub side_stored : (bytes : List ℕ) (side : Side) → SideFits (words_of bytes) side → (list output : List ℕ) {list' output' : List ℕ} {count : ℕ}
    → PiecePut list 0 (side_table side (words_of bytes)) list' count → side_words side ≤ length output / 4
    → output' ≡ sets output 0 (bytes_of (take (length output / 4) (take count list')))
    → (count ≡ length (side_table side (words_of bytes))) × (output' ≡ sets output 0 (bytes_of (side_table side (words_of bytes))))
side_stored bytes side fits list output {list'} {output'} {count} put space is =
    let table = side_table side (words_of bytes) in
    let size : count ≡ length table = omega (arith, put.ends) in (
      size,
      is ∙ ap (λ (l : List ℕ). sets output 0 (bytes_of l))
          (ap (take (length output / 4)) put.front ∙ take_all (length output / 4) table (omega (arith, side_length (words_of bytes) side fits))),
    )

-- ---- The call

-- What is admitted of the words that are loaded is admitted of the table.
pub decided : (bytes list : List ℕ) (nodes servers first second : ℕ) {count : ℕ} {list' : List ℕ} → count ≡ min (length bytes / 4) (length list)
    → list' ≡ sets list 0 (words_of bytes) → suc most_words ≤ length list → (admitted : Result (Side × Side) PartRefusal)
    → Admits (take count list') (parting (take count list') nodes servers first second) first second admitted
    → Admits (words_of bytes) (parting (words_of bytes) nodes servers first second) first second admitted
decided bytes list nodes servers first second {count} {list'} n is deciding admitted admits =
    admits_cut (length list) (words_of bytes) nodes servers first second deciding admitted
    (subst (λ (l : List ℕ). Admits l (parting l nodes servers first second) first second admitted) (take-loaded (length list) count bytes list list' refl n is) admits)

module _ (outcome : PartOutcome) (first second : List ℕ) where
  pub parts_stored : {w first' second' : List ℕ} {space more before behind : ℕ} {one two : Side} → Halved w outcome space more one two
      → (before ≡ length (side_table one w)) × (first' ≡ sets first 0 (bytes_of (side_table one w)))
      → (behind ≡ length (side_table two w)) × (second' ≡ sets second 0 (bytes_of (side_table two w)))
      → Stored outcome first second first' second' (Ok (record { first = before; second = behind }))
  parts_stored h a b = record {
    left = record {
      first_after = a.1 ∙ sym (ap (λ (o : PartOutcome). after (λ parts. bytes_of parts.first) o first) h.is);
      second_after = b.1 ∙ sym (ap (λ (o : PartOutcome). after (λ parts. bytes_of parts.second) o second) h.is);
    };
    numbers = ap₂ (λ (x y : ℕ). 0 ∷ x ∷ y ∷ []) a.0 b.0 ∙ sym (ap part_numbers h.is);
  }

  pub refused_stored : {q : PartRefusal} → outcome ≡ refused q → Stored outcome first second first second (Err q)
  refused_stored e = record {
    left = record {
      first_after = sym (ap (λ (o : PartOutcome). after (λ parts. bytes_of parts.first) o first) e);
      second_after = sym (ap (λ (o : PartOutcome). after (λ parts. bytes_of parts.second) o second) e);
    };
    numbers = sym (ap part_numbers e);
  }

  pub call_stored : {first' second' : List ℕ} {told : Result Counts PartRefusal} → Stored outcome first second first' second' told
      → (answer : List ℕ) {answer' : List ℕ} → 24 ≤ length answer
      → answer' ≡ answered 3 (told_numbers (λ counts. counts.first ∷ counts.second ∷ []) part_refusal_number part_refusal_place told) answer
      → OutcomeCall outcome first second answer 1 first' second' answer'
  call_stored s answer long a = call_done _ answer _ (omega arith) s.left (a ∙ ap (λ (l : List ℕ). answered 3 l answer) s.numbers)
