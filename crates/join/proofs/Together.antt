-- The joined table put together in a list, and what is written and told.
use mathlib.Core.Path.{◌≡◌, refl, sym, ap, ap₂, ◌∙◌, subst}
use mathlib.Core.Bool.{Bool, true, false}
use mathlib.Core.List.{List, [], ◌∷◌, ◌++◌}
use Prim.Native.Nat.{ℕ, suc, ◌+◌, ◌-◌, ◌*◌, ◌/◌, ◌≤◌, ◌<◌}
use Rattle.std.proofs.Common.{Result, Ok, Err}
use Rattle.std.specs.Result.{result_unwrap_or}
use native.Mathlib.Omega.{arith}
use lib.ListN.{length, take, set, length-set}
use lib.Seq.{sets, take_all}
use borrow.Author.Tests.{ltb-false}
use Rattle.outcomes.specs.Outcome.{accepted, refused, unless, after}
use Rattle.outcomes.proofs.Outcomes.{unless-back, unless_is, unless_none, unless_either}
use Rattle.figures.specs.Figures.{at}
use Rattle.words.specs.Bytes.{words_of, bytes_of}
use Rattle.words.proofs.Bytes.{length-words_of}
use Rattle.calls.specs.Call.{answered, told_numbers, OutcomeCall}
use Rattle.calls.proofs.Calls.{call_done}
use Rattle.rooms.specs.Part.{Step, good, bad}
use Rattle.rooms.specs.Table.{Room, most_nodes, most_servers, most_cords, most_words, form_of, node_words, room_cords}
use Rattle.rooms.specs.Limits.{checked}
use Rattle.rooms.specs.Words.{table_of, row_words, words_of_node}
use Rattle.rooms.proofs.Accepted as rooms
use Rattle.rooms.proofs.Reach.{length_is}
use Rattle.join.specs.Joined.{joined}
use Rattle.join.specs.Outcome.{JoinOutcome, reasons, joining, answer_of, join_refusal_number, join_refusal_place}
use Rattle.join.specs.Call.{join_numbers}
use Rattle.join.specs.Pieces.{renumbered_every, renumbered_cords, piece, MayPut, PiecePut}
use Rattle.join.specs.Huts.{hut_of, HutOf, MayPutTogether, JoinedInFront, written, InFront}
use Rattle.join.specs.declared.Hut.{Hut}
use Rattle.join.specs.declared.JoinRefusal.{JoinRefusal}
use Rattle.join.proofs.TableWords.{middle_is, length_are, nodes-piece, servers-piece}
use Rattle.join.proofs.PieceLaws.{every_length, piece-length, put_word, put_both}
use Rattle.join.proofs.HutLaws.{first_bad, second_bad, both_good, joined_words}
use Rattle.join.proofs.Demands.{same_count}

-- ---- What is told, and what is written

module _ (outcome : JoinOutcome) (words : List ℕ) where
  pub done_refused : {q : JoinRefusal} → outcome ≡ refused q → (Err q ≡ answer_of outcome) × InFront outcome words
  done_refused e = rw e (refl, record { is = refl })

-- An answer that is none comes of a table.
pub record Tabled (outcome : JoinOutcome) : Type 0 where
  pub table : List ℕ
  pub is : outcome ≡ accepted table

pub tabled : (outcome : JoinOutcome) {told : Result ℕ JoinRefusal} {n : ℕ} → told ≡ answer_of outcome → told ≡ Ok n → Tabled outcome
tabled outcome {told} {n} is e = go outcome (sym is ∙ e)
  where
    go : (o : JoinOutcome) → answer_of o ≡ Ok n → Tabled o
    go (accepted table) d = record { table = table; is = refl }
    go (refused p) d = absurd (cc)

module _ (f s : List ℕ) (space : ℕ) {one two : Hut} (a : HutOf f one) (b : HutOf s two) (t : Tabled (joining f s space)) where
  abbrev joint : List ℕ
  joint = table_of (at f 0) (joined a.room b.room)

  worked_off : unless (reasons (at f 0) (at s 0) a.room b.room space) joint ≡ accepted t.table
  worked_off = sym (both_good f s space a b) ∙ t.is

  same_version : at f 0 ≡ at s 0
  same_version = same_count _ _ (unless-back _ _ joint worked_off).0

  small : (p : Bool) (n m k l c d x y : ℕ) → x ≡ 3 + node_words p * n + 4 * k + 2 * c → y ≡ 3 + node_words p * m + 4 * l + 2 * d
      → n + m ≤ most_nodes → k + l ≤ most_servers → c + d ≤ most_cords → x + y - 3 ≤ most_words
  small true n m k l c d x y e g h i j = omega arith
  small false n m k l c d x y e g h i j = omega arith

  -- Two tables that are accepted may be put together.
  pub may_together : (entries : ℕ) → suc most_words ≤ entries → MayPutTogether f one s two entries
  may_together entries h =
      let version = unless-back _ _ joint worked_off in
      let nodes = unless-back _ _ joint version.1 in
      let servers = unless-back _ _ joint nodes.1 in
      let cords = unless-back _ _ joint servers.1 in
      let long = small (form_of (at f 0)).percents _ _ _ _ _ _ (length f) (length s) (length_is f a.room a.end a.good_table)
      (length_is s b.room b.end b.good_table ∙ ap (λ (v : ℕ). 3 + node_words (form_of v).percents * length b.room.nodes + 4 * length b.room.servers + 2 * room_cords b.room) (sym same_version))
      (ltb-false _ _ nodes.0) (ltb-false _ _ servers.0) (ltb-false _ _ cords.0) in
      record {
        first = a;
        second = b;
        version = ap (λ (x : Hut). x.version) a.is ∙ same_version ∙ sym (ap (λ (x : Hut). x.version) b.is);
        space = omega (arith, ap (λ (x : Hut). x.words) a.is, ap (λ (x : Hut). x.words) b.is);
      }

  -- The table that stands in front is the one that is accepted.
  pub done_accepted : (words : List ℕ) → JoinedInFront f s words → InFront (joining f s space) words
  done_accepted words front =
      let is : t.table ≡ joint = unless_is _ joint t.table worked_off in
      subst (λ (o : JoinOutcome). InFront o words) (sym (t.is ∙ ap accepted is))
      (record { is = front a.room b.room a.end b.end a.good_table b.good_table })

-- ---- What is stored

-- The table, where there is one, fits.
pub written_fits : (f s : List ℕ) (space : ℕ) → length (written (joining f s space)) ≤ space
written_fits f s space = go (checked f 0) refl
  where
    Fits : JoinOutcome → Type 0
    Fits o = length (written o) ≤ space

    both : (r q : Room) (i j : ℕ) → checked f 0 ≡ good r i → checked s 0 ≡ good q j → Fits (joining f s space)
    both r q i j a b =
        let one : HutOf f (hut_of f r) = record { room = r; end = i; good_table = a; is = refl } in
        let two : HutOf s (hut_of s q) = record { room = q; end = j; good_table = b; is = refl } in
        let table = table_of (at f 0) (joined r q) in
        subst Fits (sym (both_good f s space one two))
        (unless_either _ _ table Fits (λ h. omega arith) (λ _.
        unless_either _ _ table Fits (λ h. omega arith) (λ _.
        unless_either _ _ table Fits (λ h. omega arith) (λ _.
        unless_either _ _ table Fits (λ h. omega arith) (λ _.
        unless_either _ _ table Fits (λ h. omega arith) (λ short. subst Fits (sym (unless_none table)) (ltb-false space (length table) short)))))))

    second : (r : Room) (i : ℕ) → checked f 0 ≡ good r i → (t : Step Room) → checked s 0 ≡ t → Fits (joining f s space)
    second r i a (good q j) b = both r q i j a b
    second r i a (bad p) b = subst Fits (sym (second_bad f s space (record { room = r; end = i; good_table = a; is = refl }) b)) (omega arith)

    go : (t : Step Room) → checked f 0 ≡ t → Fits (joining f s space)
    go (good r i) a = second r i a (checked s 0) refl
    go (bad p) a = subst Fits (sym (first_bad f s space a)) (omega arith)

module _ (outcome : JoinOutcome) {told : Result ℕ JoinRefusal} {count : ℕ} (is : told ≡ answer_of outcome) (n : count ≡ result_unwrap_or told 0) where
  count_is : count ≡ length (written outcome)
  count_is = n ∙ ap (λ (t : Result ℕ JoinRefusal). result_unwrap_or t 0) is ∙ go outcome
    where
      go : (o : JoinOutcome) → result_unwrap_or (answer_of o) 0 ≡ length (written o)
      go (accepted table) = refl
      go (refused q) = refl

  module _ {words : List ℕ} (front : InFront outcome words) where
    taken : take count words ≡ written outcome
    taken = ap (λ (k : ℕ). take k words) count_is ∙ front.is

    -- Stored in bytes, with the answer.
    pub stored : (table answer : List ℕ) {table' answer' : List ℕ} → length (written outcome) ≤ length table / 4 → 16 ≤ length answer
        → table' ≡ sets table 0 (bytes_of (take (length table / 4) (take count words))) → answer' ≡ answered 2 (told_numbers (λ n. n ∷ []) join_refusal_number join_refusal_place told) answer
        → OutcomeCall 2 join_numbers bytes_of outcome table answer 1 table' answer'
    unfolding bytes_of
    stored table answer fits long s a =
        let all : take (length table / 4) (take count words) ≡ written outcome = ap (take (length table / 4)) taken ∙ take_all (length table / 4) (written outcome) fits in
        call_done _ answer _ (omega arith)
        (s ∙ ap (λ (l : List ℕ). sets table 0 (bytes_of l)) all ∙ go outcome)
        (a ∙ ap (λ (t : Result ℕ JoinRefusal). answered 2 (told_numbers (λ n. n ∷ []) join_refusal_number join_refusal_place t) answer) is
        ∙ ap (λ (l : List ℕ). answered 2 l answer) (numbers outcome))
      where
        numbers : (o : JoinOutcome) → told_numbers (λ n. n ∷ []) join_refusal_number join_refusal_place (answer_of o) ≡ join_numbers o
        numbers (accepted words) = refl
        numbers (refused q) = refl

        go : (o : JoinOutcome) → sets table 0 (bytes_of (written o)) ≡ after bytes_of o table
        go (accepted words) = refl
        go (refused q) = refl

-- ---- Where the pieces stand

-- The figures of a good table in bytes.
pub record HutFits (bytes : List ℕ) (hut : Hut) : Type 0 where
  pub two : 2 ≤ hut.middle
  pub inner : hut.middle + 1 ≤ hut.words
  pub there : 4 * hut.words ≤ length bytes
  pub long : hut.words ≡ length (words_of bytes)
  pub nodes : hut.nodes ≤ most_nodes
  pub servers : hut.servers ≤ most_servers

pub hut_fits : (bytes : List ℕ) {hut : Hut} → HutOf (words_of bytes) hut → HutFits bytes hut
hut_fits bytes h =
    let w = words_of bytes in
    let middle = ap (λ (x : Hut). x.middle) h.is ∙ middle_is w h.room h.end h.good_table in
    let words = ap (λ (x : Hut). x.words) h.is in
    let all = length_are w h.room h.end h.good_table in
    let ok = rooms.accepted w h.room h.end h.good_table in
    record {
      two = omega (arith, middle);
      inner = omega (arith, middle, words, all);
      there = omega (arith, words, length-words_of bytes);
      long = words;
      nodes = omega (arith, ap (λ (x : Hut). x.nodes) h.is, ok.few_nodes);
      servers = omega (arith, ap (λ (x : Hut). x.servers) h.is, ok.few_servers);
    }

-- The first two words do not change the length.
pub head_length : (l : List ℕ) (v n : ℕ) → length (set (set l 0 v) 1 n) ≡ length l
head_length l v n = length-set (set l 0 v) 1 n ∙ length-set l 0 v

-- Where a piece ends.
module _ {list list' : List ℕ} {at end : ℕ} (words : List ℕ) (from to : ℕ) (h : to ≤ length words) where
  pub ends_words : PiecePut list at (piece from to words) list' end → end ≡ at + (to - from)
  ends_words p = p.ends ∙ ap (λ (k : ℕ). at + k) (piece-length words from to h)

  pub ends_nodes : (gap up down : ℕ) → PiecePut list at (renumbered_every gap up down 0 (piece from to words)) list' end → end ≡ at + (to - from)
  ends_nodes gap up down p = p.ends ∙ ap (λ (k : ℕ). at + k) (every_length gap up down 0 (piece from to words) ∙ piece-length words from to h)

-- ---- All pieces

module _ (first second : List ℕ) {one two : Hut} {entries : ℕ} (may : MayPutTogether (words_of first) one (words_of second) two entries) where
  abbrev f : List ℕ
  f = words_of first

  abbrev s : List ℕ
  s = words_of second

  pub fits_one : HutFits first one
  fits_one = hut_fits first may.first

  pub fits_two : HutFits second two
  fits_two = hut_fits second may.second

  -- The list is long enough for the first three words and what comes between.
  pub has_space : (one.words + two.words - 3 ≤ entries) × (3 ≤ one.words) × (3 ≤ two.words)
  has_space = (may.space, omega (arith, fits_one.two, fits_one.inner), omega (arith, fits_two.two, fits_two.inner))

  -- Where each piece starts, and that there is space for it.
  module _ (list : List ℕ) (size : length list ≡ entries) where
    pub may_nodes_one : MayPut first 2 one.middle list 2
    may_nodes_one = record {
      ordered = fits_one.two;
      there = omega (arith, fits_one.inner, fits_one.there);
      space = omega (arith, fits_one.two, fits_one.inner, fits_two.two, fits_two.inner, may.space);
    }

    module _ {at : ℕ} where
      pub may_nodes_two : at ≡ one.middle → MayPut second 2 two.middle list at
      may_nodes_two e = record {
        ordered = fits_two.two;
        there = omega (arith, fits_two.inner, fits_two.there);
        space = omega (arith, fits_one.inner, fits_two.two, fits_two.inner, may.space);
      }

      pub may_servers_one : at ≡ one.middle + (two.middle - 2) + 1 → MayPut first (one.middle + 1) one.words list at
      may_servers_one e = record {
        ordered = fits_one.inner;
        there = fits_one.there;
        space = omega (arith, fits_one.inner, fits_two.two, fits_two.inner, may.space);
      }

      pub may_servers_two : at ≡ one.middle + (two.middle - 2) + 1 + (one.words - (one.middle + 1)) → MayPut second (two.middle + 1) two.words list at
      may_servers_two e = record {
        ordered = fits_two.inner;
        there = fits_two.there;
        space = omega (arith, fits_one.inner, fits_two.two, fits_two.inner, may.space);
      }

  pub behind_is : {list list₁ : List ℕ} {end : ℕ} → PiecePut list 2 (piece 2 one.middle f) list₁ end → end ≡ one.middle
  behind_is p = omega (arith, ends_words f 2 one.middle (omega (arith, fits_one.inner, fits_one.long)) p, fits_one.two)

  module _ {list list₁ : List ℕ} {at end : ℕ} where
    pub between_is : (gap by : ℕ) → at ≡ one.middle → PiecePut list at (renumbered_every gap by 0 0 (piece 2 two.middle s)) list₁ end → end ≡ one.middle + (two.middle - 2)
    between_is gap by e p = omega (arith, ends_nodes s 2 two.middle (omega (arith, fits_two.inner, fits_two.long)) gap by 0 p)

    pub next_is : PiecePut list at (piece (one.middle + 1) one.words f) list₁ end → end ≡ at + (one.words - (one.middle + 1))
    next_is p = ends_words f (one.middle + 1) one.words (omega (arith, fits_one.long)) p

  -- The words that the pieces come to.
  abbrev shape : (version nodes : ℕ) (a : List ℕ) (width by : ℕ) (b : List ℕ) (servers : ℕ) (c d : List ℕ) → List ℕ
  shape version nodes a width by b servers c d =
      version ∷ nodes ∷ (a ++ (renumbered_every (width - 1) by 0 0 b ++ (servers ∷ (c ++ renumbered_cords by 0 0 d))))

  module _ {width by nodes servers : ℕ} (width_is : width ≡ node_words (form_of one.version).percents) (by_is : by ≡ one.nodes)
      (nodes_are : nodes ≡ one.nodes + two.nodes) (servers_are : servers ≡ one.servers + two.servers) where
    abbrev pieces : List ℕ
    pieces = shape one.version nodes (piece 2 one.middle f) width by (piece 2 two.middle s) servers
        (piece (one.middle + 1) one.words f) (piece (two.middle + 1) two.words s)

    -- They are the table of the room of both.
    pieces_are : (r q : Room) (i j : ℕ) → checked f 0 ≡ good r i → checked s 0 ≡ good q j → pieces ≡ table_of (at f 0) (joined r q)
    pieces_are r q i j a b =
        let o = may.first in
        let t = may.second in
        let or : o.room ≡ r = (let z = sym o.good_table ∙ a in cc) in
        let tr : t.room ≡ q = (let z = sym t.good_table ∙ b in cc) in
        let version : one.version ≡ at f 0 = ap (λ (h : Hut). h.version) o.is in
        let same : at f 0 ≡ at s 0 = sym version ∙ may.version ∙ ap (λ (h : Hut). h.version) t.is in
        let one_nodes : one.nodes ≡ length r.nodes = ap (λ (h : Hut). h.nodes) o.is ∙ ap (λ (x : Room). length x.nodes) or in
        let two_nodes : two.nodes ≡ length q.nodes = ap (λ (h : Hut). h.nodes) t.is ∙ ap (λ (x : Room). length x.nodes) tr in
        let one_servers : one.servers ≡ length r.servers = ap (λ (h : Hut). h.servers) o.is ∙ ap (λ (x : Room). length x.servers) or in
        let two_servers : two.servers ≡ length q.servers = ap (λ (h : Hut). h.servers) t.is ∙ ap (λ (x : Room). length x.servers) tr in
        (λ k. shape (version k) ((nodes_are ∙ ap₂ ◌+◌ one_nodes two_nodes) k)
        ((ap (λ (m : ℕ). piece 2 m f) (ap (λ (h : Hut). h.middle) o.is) ∙ nodes-piece f r i a) k)
        ((width_is ∙ ap (λ (v : ℕ). node_words (form_of v).percents) version) k)
        ((by_is ∙ one_nodes) k)
        ((ap (λ (m : ℕ). piece 2 m s) (ap (λ (h : Hut). h.middle) t.is) ∙ nodes-piece s q j b ∙ ap (λ (v : ℕ). row_words (words_of_node (form_of v).percents) q.nodes) (sym same)) k)
        ((servers_are ∙ ap₂ ◌+◌ one_servers two_servers) k)
        ((ap₂ (λ (m n : ℕ). piece (m + 1) n f) (ap (λ (h : Hut). h.middle) o.is) (ap (λ (h : Hut). h.words) o.is) ∙ servers-piece f r i a) k)
        ((ap₂ (λ (m n : ℕ). piece (m + 1) n s) (ap (λ (h : Hut). h.middle) t.is) (ap (λ (h : Hut). h.words) t.is) ∙ servers-piece s q j b) k))
        ∙ sym (joined_words f s r q i j a b same)

    pub together : (list : List ℕ) {list₃ : List ℕ} (list₄ : List ℕ) {list₆ list₇ : List ℕ} {behind : ℕ} (middle : ℕ) {next end : ℕ} → 2 ≤ length list → middle < length list₄
        → PiecePut (set (set list 0 one.version) 1 nodes) 2 (piece 2 one.middle f) list₃ behind
        → PiecePut list₃ behind (renumbered_every (width - 1) by 0 0 (piece 2 two.middle s)) list₄ middle
        → PiecePut (set list₄ middle servers) (middle + 1) (piece (one.middle + 1) one.words f) list₆ next
        → PiecePut list₆ next (renumbered_cords by 0 0 (piece (two.middle + 1) two.words s)) list₇ end
        → JoinedInFront f s list₇
    together list {list₃} list₄ {list₆} {list₇} {behind} middle {next} {end} long more a b c d =
        let v = put_word list 0 one.version (omega arith) in
        let n = put_word (set list 0 one.version) 1 nodes (omega (arith, length-set list 0 one.version)) in
        let k : PiecePut list₄ middle (servers ∷ []) (set list₄ middle servers) (middle + 1)
        = subst (λ (e : ℕ). PiecePut list₄ middle (servers ∷ []) (set list₄ middle servers) e) (let q : suc middle ≡ middle + 1 = omega arith in q) (put_word list₄ middle servers more) in
        let all = put_both v (put_both n (put_both a (put_both b (put_both k (put_both c d))))) in
        λ r q i j e g.
        let is = pieces_are r q i j e g in
        subst (λ (l : List ℕ). take (length l) list₇ ≡ l) is (ap (λ (m : ℕ). take m list₇) (let z : length pieces ≡ end = omega (arith, all.ends) in z) ∙ all.front)
