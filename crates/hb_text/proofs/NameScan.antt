-- A text that is read to its end within a word is a name, and each name is read so.
use Rattle.std.proofs.Common.{◌≡◌, ℕ, Bool, true, false, cond, ◌&&◌, List, [], ◌∷◌, ◌++◌, refl, sym, ap, subst, ◌∙◌, nat_eq, IsTrue, ◌⊎◌, inl, inr, append_assoc, append-nil, arith}
use Rattle.std.specs.List.{AllByRecursion}
use Rattle.std.proofs.lemmas.Bool.Decides.{nat_tests}
use Rattle.hb_text.specs.Grammar.{Grammar, Matches, joined, byte, is_lower_or_digit}
use Rattle.hb_text.specs.Grammar.Grammar.{Byte, Then, Many}
use Rattle.hb_text.specs.Names.{word, separator, component, path}
use Rattle.hb_text.specs.NameScan.{behind_word, in_word, next_place, place_after, is_within_word}
use Rattle.hb_text.specs.declared.names.Place.{Place}
use Rattle.hb_text.specs.declared.names.Place.TheVariants.{Before, Within, Underscore, Dashes, Outside}

-- bytes that the test tells equal are one byte
same_byte : (a b : ℕ) → nat_eq a b ≡ true → a ≡ b
same_byte a b e = grind (arith, nat_tests)

-- three texts end to end, grouped either way
associate : (a b c : List ℕ) → (a ++ b) ++ c ≡ a ++ (b ++ c)
associate a b c = simp append_assoc

-- the empty text is none of the pieces
many-none : (g : Grammar) → Matches (Many g) []
many-none g = ([], refl, tt)

-- one piece more in front
many-more : (g : Grammar) (x u : List ℕ) → Matches g x → Matches (Many g) u → Matches (Many g) (x ++ u)
many-more g x u h m = (x ∷ m.0, ap (λ z. x ++ z) m.1, (h, m.2))

-- each byte is a letter or a digit of a word
abbrev AreLetters : List ℕ → Type 0
AreLetters w = AllByRecursion (λ b. IsTrue (is_lower_or_digit b)) w

-- letters and digits are any number of them
letters-many : (w : List ℕ) → AreLetters w → Matches (Many (Byte is_lower_or_digit)) w
letters-many [] h = many-none (Byte is_lower_or_digit)
letters-many (b ∷ w) h = many-more (Byte is_lower_or_digit) (b ∷ []) w (b, refl, h.0) (letters-many w h.1)

-- a first letter or digit and further ones are a word
letters-word : (b : ℕ) (w : List ℕ) → IsTrue (is_lower_or_digit b) → AreLetters w → Matches word (b ∷ w)
letters-word b w h hs = (b ∷ [], w, refl, (b, refl, h), letters-many w hs)

-- ---- what is read is a name
-- the rest of a word, further words, and further components
record Tail (slash : Bool) (s : List ℕ) : Type 0 where
  letters : List ℕ
  words : List ℕ
  parts : List ℕ
  whole : s ≡ letters ++ (words ++ parts)
  are_letters : AreLetters letters
  are_words : Matches (Many (Then separator word)) words
  are_parts : Matches (Many (Then (byte 47) component)) parts
  single : slash ≡ false → parts ≡ []

-- a word begins here, with what may follow it
record Start (slash : Bool) (s : List ℕ) : Type 0 where
  first : ℕ
  rest : List ℕ
  whole : s ≡ first ∷ rest
  letter : IsTrue (is_lower_or_digit first)
  tail : Tail slash rest

-- any number of dashes
abbrev AreDashes : List ℕ → Type 0
AreDashes ds = Matches (Many (byte 45)) ds

-- what a text has to be, read to its end from this place
abbrev Reads : Bool → Place → List ℕ → Type 0
Reads slash Before s = Start slash s
Reads slash Within s = Tail slash s
Reads slash Underscore s = Start slash s ⊎ ((rest : List ℕ) × (s ≡ 95 ∷ rest) × Start slash rest)
Reads slash Dashes s = (ds : List ℕ) × (rest : List ℕ) × (s ≡ ds ++ rest) × AreDashes ds × Start slash rest
Reads slash Outside s = ⊥

-- the parts behind a separator or a slash, grouped anew
regroup-words : (j f w m c : List ℕ) → j ++ (f ++ (w ++ (m ++ c))) ≡ ((j ++ (f ++ w)) ++ m) ++ c
regroup-words j f w m c = simp append_assoc

regroup-parts : (f w m c : List ℕ) → 47 ∷ (f ++ (w ++ (m ++ c))) ≡ (47 ∷ ((f ++ w) ++ m)) ++ c
regroup-parts f w m c = ap (λ z. 47 ∷ z) (simp append_assoc)

module _ (slash : Bool) where
  -- a separator and a word behind a word
  joint-tail : (j s : List ℕ) → Matches separator j → Start slash s → Tail slash (j ++ s)
  joint-tail j s h r =
      let w = r.first ∷ r.tail.letters in
      record {
        letters = [];
        words = (j ++ w) ++ r.tail.words;
        parts = r.tail.parts;
        whole = ap (λ z. j ++ z) (r.whole ∙ ap (λ z. r.first ∷ z) r.tail.whole) ∙ regroup-words j (r.first ∷ []) r.tail.letters r.tail.words r.tail.parts;
        are_letters = tt;
        are_words = many-more (Then separator word) (j ++ w) r.tail.words (j, w, refl, h, letters-word r.first r.tail.letters r.letter r.tail.are_letters) r.tail.are_words;
        are_parts = r.tail.are_parts;
        single = r.tail.single;
      }

  -- a slash and a component behind a word
  slash-tail : slash ≡ true → (s : List ℕ) → Start slash s → Tail slash (47 ∷ s)
  slash-tail several s r =
      let w = r.first ∷ r.tail.letters in
      record {
        letters = [];
        words = [];
        parts = (47 ∷ (w ++ r.tail.words)) ++ r.tail.parts;
        whole = ap (λ z. 47 ∷ z) (r.whole ∙ ap (λ z. r.first ∷ z) r.tail.whole) ∙ regroup-parts (r.first ∷ []) r.tail.letters r.tail.words r.tail.parts;
        are_letters = tt;
        are_words = many-none (Then separator word);
        are_parts = many-more (Then (byte 47) component) (47 ∷ (w ++ r.tail.words)) r.tail.parts
            (47 ∷ [], w ++ r.tail.words, refl, (47, refl, refl), (w, r.tail.words, refl, letters-word r.first r.tail.letters r.letter r.tail.are_letters, r.tail.are_words)) r.tail.are_parts;
        single = λ one. cc;
      }

  -- each separator is one
  dot-joint : Matches separator (46 ∷ [])
  dot-joint = inl (46, refl, refl)

  underscore-joint : Matches separator (95 ∷ [])
  underscore-joint = inr (inl (95, refl, refl))

  underscores-joint : Matches separator (95 ∷ 95 ∷ [])
  underscores-joint = inr (inr (inl (95 ∷ [], 95 ∷ [], refl, (95, refl, refl), (95, refl, refl))))

  dashes-joint : (ds : List ℕ) → AreDashes ds → Matches separator (45 ∷ ds)
  dashes-joint ds h = inr (inr (inr (45 ∷ [], ds, refl, (45, refl, refl), h)))

  -- a letter in front of the rest of a word
  letter-tail : (b : ℕ) (s : List ℕ) → IsTrue (is_lower_or_digit b) → Tail slash s → Tail slash (b ∷ s)
  letter-tail b s e r = record { letters = b ∷ r.letters; words = r.words; parts = r.parts; whole = ap (λ z. b ∷ z) r.whole; are_letters = (e, r.are_letters); are_words = r.are_words; are_parts = r.are_parts; single = r.single }

  -- a letter begins a word
  letter-start : (b : ℕ) (s : List ℕ) → IsTrue (is_lower_or_digit b) → Tail slash s → Start slash (b ∷ s)
  letter-start b s e r = record { first = b; rest = s; whole = refl; letter = e; tail = r }

  -- a byte behind a word that is no letter: the separator or slash that it begins
  behind-reads : (b : ℕ) (s : List ℕ) → Reads slash (behind_word slash b) s → Tail slash (b ∷ s)
  behind-reads b s =
      elim (nat_eq 46 b) as (λ t. nat_eq 46 b ≡ t → Reads slash (cond t Before (cond (nat_eq 95 b) Underscore (cond (nat_eq 45 b) Dashes (cond (slash && nat_eq 47 b) Before Outside)))) s → Tail slash (b ∷ s)) [
        | true ↦ λ e r. subst (λ z. Tail slash (z ∷ s)) (same_byte 46 b e) (joint-tail (46 ∷ []) s dot-joint r)
        | false ↦ λ _. elim (nat_eq 95 b) as (λ t. nat_eq 95 b ≡ t → Reads slash (cond t Underscore (cond (nat_eq 45 b) Dashes (cond (slash && nat_eq 47 b) Before Outside))) s → Tail slash (b ∷ s)) [
          | true ↦ λ e r. subst (λ z. Tail slash (z ∷ s)) (same_byte 95 b e) (elim r [
            | inl start ↦ joint-tail (95 ∷ []) s underscore-joint start
            | inr two ↦ subst (λ z. Tail slash (95 ∷ z)) (sym two.1) (joint-tail (95 ∷ 95 ∷ []) two.0 underscores-joint two.2)
          ])
          | false ↦ λ _. elim (nat_eq 45 b) as (λ t. nat_eq 45 b ≡ t → Reads slash (cond t Dashes (cond (slash && nat_eq 47 b) Before Outside)) s → Tail slash (b ∷ s)) [
            | true ↦ λ e r. subst (λ z. Tail slash (z ∷ s)) (same_byte 45 b e) (subst (λ z. Tail slash (45 ∷ z)) (sym r.2) (joint-tail (45 ∷ r.0) r.1 (dashes-joint r.0 r.3) r.4))
            | false ↦ λ _. slash-case b s
          ] refl
        ] refl
      ] refl
    where
      -- the byte is a slash where names have several components
      slash-case : (b : ℕ) (s : List ℕ) → Reads slash (cond (slash && nat_eq 47 b) Before Outside) s → Tail slash (b ∷ s)
      slash-case b s =
          elim slash as (λ v. slash ≡ v → Reads slash (cond (v && nat_eq 47 b) Before Outside) s → Tail slash (b ∷ s)) [
            | true ↦ λ several. elim (nat_eq 47 b) as (λ t. nat_eq 47 b ≡ t → Reads slash (cond t Before Outside) s → Tail slash (b ∷ s)) [
              | true ↦ λ e r. subst (λ z. Tail slash (z ∷ s)) (same_byte 47 b e) (slash-tail several s r)
              | false ↦ λ e r. absurd r
            ] refl
            | false ↦ λ one r. absurd r
          ] refl

  -- one byte before what is read behind it
  byte-reads : (p : Place) (b : ℕ) (s : List ℕ) → Reads slash (next_place slash p b) s → Reads slash p (b ∷ s)
  byte-reads Outside b s = λ r. r
  byte-reads Before b s =
      elim (is_lower_or_digit b) as (λ t. is_lower_or_digit b ≡ t → Reads slash (in_word t Outside) s → Start slash (b ∷ s)) [ true ↦ λ e r. letter-start b s e r | false ↦ λ e r. absurd r ] refl
  byte-reads Within b s =
      elim (is_lower_or_digit b) as (λ t. is_lower_or_digit b ≡ t → Reads slash (in_word t (behind_word slash b)) s → Tail slash (b ∷ s)) [ true ↦ λ e r. letter-tail b s e r | false ↦ λ e r. behind-reads b s r ] refl
  byte-reads Underscore b s =
      elim (is_lower_or_digit b) as (λ t. is_lower_or_digit b ≡ t → Reads slash (in_word t (cond (nat_eq 95 b) Before Outside)) s → Reads slash Underscore (b ∷ s)) [
        | true ↦ λ e r. inl (letter-start b s e r)
        | false ↦ λ _. elim (nat_eq 95 b) as (λ t. nat_eq 95 b ≡ t → Reads slash (cond t Before Outside) s → Reads slash Underscore (b ∷ s)) [ true ↦ λ e r. inr (s, ap (λ z. z ∷ s) (sym (same_byte 95 b e)), r) | false ↦ λ e r. absurd r ] refl
      ] refl
  byte-reads Dashes b s =
      elim (is_lower_or_digit b) as (λ t. is_lower_or_digit b ≡ t → Reads slash (in_word t (cond (nat_eq 45 b) Dashes Outside)) s → Reads slash Dashes (b ∷ s)) [
        | true ↦ λ e r. ([], b ∷ s, refl, many-none (byte 45), letter-start b s e r)
        | false ↦ λ _. elim (nat_eq 45 b) as (λ t. nat_eq 45 b ≡ t → Reads slash (cond t Dashes Outside) s → Reads slash Dashes (b ∷ s)) [
          | true ↦ λ e r. (b ∷ r.0, r.1, ap (λ z. b ∷ z) r.2, many-more (byte 45) (b ∷ []) r.0 (b, refl, e) r.3, r.4)
          | false ↦ λ e r. absurd r
        ] refl
      ] refl

  -- what ends within a word is what its first place asks for
  reads : (p : Place) (s : List ℕ) → is_within_word (place_after slash p s) ≡ true → Reads slash p s
  reads Within [] h = record { letters = []; words = []; parts = []; whole = refl; are_letters = tt; are_words = many-none (Then separator word); are_parts = many-none (Then (byte 47) component); single = λ one. refl }
  reads Before [] h = cc
  reads Underscore [] h = cc
  reads Dashes [] h = cc
  reads Outside [] h = cc
  reads p (b ∷ s) h = byte-reads p b s (reads (next_place slash p b) s h)

-- the names: one component, or several between slashes
abbrev pub names_by : Bool → Grammar
names_by true = path
names_by false = component

-- a word and what may follow it are a name
start-name : (slash : Bool) (s : List ℕ) → Start slash s → Matches (names_by slash) s
start-name true s r =
    let w = r.first ∷ r.tail.letters in
    (w ++ r.tail.words, r.tail.parts, r.whole ∙ ap (λ z. r.first ∷ z) (r.tail.whole ∙ sym (associate r.tail.letters r.tail.words r.tail.parts)), (w, r.tail.words, refl, letters-word r.first r.tail.letters r.letter r.tail.are_letters, r.tail.are_words), r.tail.are_parts)
start-name false s r =
    let w = r.first ∷ r.tail.letters in
    (w, r.tail.words, r.whole ∙ ap (λ z. r.first ∷ z) (r.tail.whole ∙ ap (λ z. r.tail.letters ++ (r.tail.words ++ z)) (r.tail.single refl) ∙ ap (λ z. r.tail.letters ++ z) append_nil_at), letters-word r.first r.tail.letters r.letter r.tail.are_letters, r.tail.are_words)
  where
    append_nil_at : r.tail.words ++ [] ≡ r.tail.words
    append_nil_at = append-nil r.tail.words

-- what is read to its end within a word is a name
pub name-read : (slash : Bool) (s : List ℕ) → is_within_word (place_after slash Before s) ≡ true → Matches (names_by slash) s
name-read slash s h = start-name slash s (reads slash Before s h)

-- ---- each name is read so
module _ (slash : Bool) where
  -- from here on a letter is within a word
  Open : Place → Type 0
  Open p = (b : ℕ) → is_lower_or_digit b ≡ true → next_place slash p b ≡ Within

  -- a word may begin or go on at each of these places
  open-before : Open Before
  unfolding Open
  open-before b e = ap (λ t. in_word t Outside) e

  open-within : Open Within
  unfolding Open
  open-within b e = ap (λ t. in_word t (behind_word slash b)) e

  open-underscore : Open Underscore
  unfolding Open
  open-underscore b e = ap (λ t. in_word t (cond (nat_eq 95 b) Before Outside)) e

  open-dashes : Open Dashes
  unfolding Open
  open-dashes b e = ap (λ t. in_word t (cond (nat_eq 45 b) Dashes Outside)) e

  -- letters keep within the word
  through-letters : (pieces : List (List ℕ)) (rest : List ℕ) → AllByRecursion (Matches (Byte is_lower_or_digit)) pieces → place_after slash Within (joined pieces ++ rest) ≡ place_after slash Within rest
  unfolding Open
  through-letters [] rest h = refl
  through-letters (x ∷ pieces) rest h =
      ap (λ z. place_after slash Within ((z ++ joined pieces) ++ rest)) h.0.1
      ∙ ap (λ z. place_after slash z (joined pieces ++ rest)) (open-within h.0.0 h.0.2)
      ∙ through-letters pieces rest h.1

  -- a word leads from where one may begin to within a word
  through-word : (p : Place) → Open p → (w rest : List ℕ) → Matches word w → place_after slash p (w ++ rest) ≡ place_after slash Within rest
  unfolding Open
  through-word p o w rest m =
      ap (λ z. place_after slash p (z ++ rest)) (m.2 ∙ (let a = m.3.1 in let b = m.4.1 in λ i. a i ++ b i))
      ∙ ap (λ z. place_after slash z (joined m.4.0 ++ rest)) (o m.3.0 m.3.2)
      ∙ through-letters m.4.0 rest m.4.2

  -- dashes lead to where more may follow
  through-dashes : (pieces : List (List ℕ)) (rest : List ℕ) → AllByRecursion (Matches (byte 45)) pieces → place_after slash Dashes (joined pieces ++ rest) ≡ place_after slash Dashes rest
  through-dashes [] rest h = refl
  through-dashes (x ∷ pieces) rest h =
      ap (λ z. place_after slash Dashes ((z ++ joined pieces) ++ rest)) (h.0.1 ∙ ap (λ z. z ∷ []) (sym (same_byte 45 h.0.0 h.0.2)))
      ∙ through-dashes pieces rest h.1

  -- a separator and a word lead to within a word
  through-joint : (j w rest : List ℕ) → Matches separator j → Matches word w → place_after slash Within (j ++ (w ++ rest)) ≡ place_after slash Within rest
  through-joint j w rest m h = elim m [
    | inl dot ↦ ap (λ z. place_after slash Within (z ++ (w ++ rest))) (single 46 j dot) ∙ through-word Before open-before w rest h
    | inr m ↦ elim m [
      | inl one ↦ ap (λ z. place_after slash Within (z ++ (w ++ rest))) (single 95 j one) ∙ through-word Underscore open-underscore w rest h
      | inr m ↦ elim m [
        | inl two ↦ ap (λ z. place_after slash Within (z ++ (w ++ rest))) (two.2 ∙ (let a = single 95 two.0 two.3 in let b = single 95 two.1 two.4 in λ i. a i ++ b i)) ∙ through-word Before open-before w rest h
        | inr ds ↦ ap (λ z. place_after slash Within (z ++ (w ++ rest))) (ds.2 ∙ (let a = single 45 ds.0 ds.3 in let b = ds.4.1 in λ i. a i ++ b i)) ∙ through-dashes ds.4.0 (w ++ rest) ds.4.2 ∙ through-word Dashes open-dashes w rest h
      ]
    ]
  ]
    where
      single : (b : ℕ) (x : List ℕ) → Matches (byte b) x → x ≡ b ∷ []
      single b x m = m.1 ∙ ap (λ z. z ∷ []) (sym (same_byte b m.0 m.2))

  -- further words behind separators lead to within a word
  through-words : (pieces : List (List ℕ)) (rest : List ℕ) → AllByRecursion (Matches (Then separator word)) pieces → place_after slash Within (joined pieces ++ rest) ≡ place_after slash Within rest
  through-words [] rest h = refl
  through-words (x ∷ pieces) rest h =
      ap (λ z. place_after slash Within ((z ++ joined pieces) ++ rest)) h.0.2
      ∙ ap (place_after slash Within) (regroup h.0.0 h.0.1 (joined pieces) rest)
      ∙ through-joint h.0.0 h.0.1 (joined pieces ++ rest) h.0.3 h.0.4
      ∙ through-words pieces rest h.1
    where
      regroup : (a b c d : List ℕ) → ((a ++ b) ++ c) ++ d ≡ a ++ (b ++ (c ++ d))
      regroup a b c d = simp append_assoc

  -- a component leads from its start to within a word
  through-component : (c rest : List ℕ) → Matches component c → place_after slash Before (c ++ rest) ≡ place_after slash Within rest
  through-component c rest m =
      ap (λ z. place_after slash Before (z ++ rest)) m.2
      ∙ ap (place_after slash Before) (associate m.0 m.1 rest)
      ∙ through-word Before open-before m.0 (m.1 ++ rest) m.3
      ∙ ap (λ z. place_after slash Within (z ++ rest)) m.4.1
      ∙ through-words m.4.0 rest m.4.2

-- further components behind slashes lead to within a word
through-parts : (pieces : List (List ℕ)) (rest : List ℕ) → AllByRecursion (Matches (Then (byte 47) component)) pieces → place_after true Within (joined pieces ++ rest) ≡ place_after true Within rest
through-parts [] rest h = refl
through-parts (x ∷ pieces) rest h =
    ap (λ z. place_after true Within ((z ++ joined pieces) ++ rest)) (h.0.2 ∙ ap (λ z. z ++ h.0.1) (h.0.3.1 ∙ ap (λ z. z ∷ []) (sym (same_byte 47 h.0.3.0 h.0.3.2))))
    ∙ ap (place_after true Before) (associate h.0.1 (joined pieces) rest)
    ∙ through-component true h.0.1 (joined pieces ++ rest) h.0.4
    ∙ through-parts pieces rest h.1

-- a name is read to its end within a word
pub read-name : (slash : Bool) (s : List ℕ) → Matches (names_by slash) s → is_within_word (place_after slash Before s) ≡ true
read-name true s m = ap (λ z. is_within_word (place_after true Before z)) m.2 ∙ ap is_within_word (through-component true m.0 m.1 m.3 ∙ ap (λ z. place_after true Within z) (m.4.1 ∙ sym (append-nil (joined m.4.0))) ∙ through-parts m.4.0 [] m.4.2)
read-name false s m = ap (λ z. is_within_word (place_after false Before z)) (sym (append-nil s)) ∙ ap is_within_word (through-component false s [] m)
