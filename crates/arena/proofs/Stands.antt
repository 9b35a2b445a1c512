-- Records that are entered stand, and those before them still do.
use Rattle.std.proofs.Common.{◌≡◌, ℕ, suc, ◌+◌, ◌<◌, ◌≤◌, min, Bool, true, false, cond, ◌&&◌, eqb, ltb, leb, List, []}
use Rattle.std.proofs.Common.{◌∷◌, ◌++◌, reverse, length, Some, None, Ok, Err, Option, Result}
use Rattle.std.proofs.Common.{sym, refl, ap, ◌∙◌, subst, arith}
use Rattle.std.proofs.lemmas.List.{reverse-append}
use Rattle.std.proofs.lemmas.Bool.{and_parts, and_from, leb-true, ltb-true, le-leb, eq-eqb, eqb-true}
use Rattle.std.proofs.lemmas.Option.{same_Some}
use Rattle.vocabulary.specs.declared.nodes.Node.{Node as Record}
use Rattle.vocabulary.specs.Nodes.{BoundNode as Node}
use Rattle.vocabulary.specs.declared.refusals.BindingRefusal.{BindingRefusal}
use Rattle.vocabulary.specs.declared.types.DType.{DType}
use Rattle.vocabulary.specs.declared.values.Span.{Span}
use Rattle.vocabulary.specs.Nodes.{text_of}
use Rattle.meaning.specs.Columns.{Schemas}
use Rattle.meaning.proofs.CaseSplits.{none_some}
use Rattle.model.specs.Making.{Plan, named, looked_up, with_record, types_of, deepest, total_size, new_record}
use Rattle.model.specs.Shapes.{kids}
use Rattle.model.specs.Soundness.{EndsWithin}
use Rattle.model.specs.Stores.{Store, node_among, grown}
use Rattle.model.proofs.Children.{err_ok, ok_same}
use Rattle.model.proofs.Growing.{padded_named, padded_eight}
use Rattle.model.proofs.Plans.{checked}
use Rattle.arena.specs.declared.memory.Memory.{Memory as Held}
use Rattle.arena.specs.Building.{sized_as, typed_over, build_by}
use Rattle.arena.specs.Opened.{store}
use Rattle.arena.specs.Rooms.{Limited}
use Rattle.arena.specs.Standing.{found_among, ends_within, measures, stands, all_stand}
use Rattle.arena.proofs.Drafts.{nodes_length}
use Rattle.arena.proofs.SameStores.{same_store}

ends_more : (len more : ℕ) (o : Option Span) → ends_within len o ≡ true → ends_within (len + more) o ≡ true
ends_more len more None h = refl
ends_more len more (Some p) h =
    le-leb (p.start + p.len) (len + more) (omega (arith, leb-true (p.start + p.len) len h))

-- the parts of a record that stands
pub record Stood {T : Type 0} (len : ℕ) (older : List (Record T)) (x : Record T) : Type 0 where
  pub few : leb x.child_count 8 && eqb (length x.children) 8 ≡ true
  pub measured : measures x (found_among older (kids x)) ≡ true
  pub inside : ends_within len (text_of x.function) ≡ true

pub stood : {T : Type 0} (len : ℕ) (older : List (Record T)) (x : Record T) → stands len older x ≡ true
    → Stood len older x
stood len older x h =
    let small : Bool = leb x.child_count 8 && eqb (length x.children) 8 in
    let level : Bool = measures x (found_among older (kids x)) in
    let last : Bool = ends_within len (text_of x.function) in
    let (a, h2) = and_parts small (level && last) h in
    let (b, c) = and_parts level last h2 in
    record { few = a; measured = b; inside = c }

pub stands_by : (len : ℕ) (older : List Node) (x : Node) → Stood len older x → stands len older x ≡ true
stands_by len older x s =
    let small : Bool = leb x.child_count 8 && eqb (length x.children) 8 in
    let level : Bool = measures x (found_among older (kids x)) in
    let last : Bool = ends_within len (text_of x.function) in
    and_from small (level && last) s.few (and_from level last s.measured s.inside)

-- a record stands in a longer text
stands_more : (len more : ℕ) (older : List Node) (x : Node) → stands len older x ≡ true
    → stands (len + more) older x ≡ true
stands_more len more older x h =
    let s = stood len older x h in
    stands_by (len + more) older x (record {
      few = s.few;
      measured = s.measured;
      inside = ends_more len more (text_of x.function) s.inside;
    })

-- all records stand in a longer text
pub all_stand_more : (len more : ℕ) (xs : List Node) → all_stand len xs ≡ true → all_stand (len + more) xs ≡ true
all_stand_more len more [] h = refl
all_stand_more len more (x ∷ xs) h =
    let (a, b) = and_parts (stands len xs x) (all_stand len xs) h in
    and_from (stands (len + more) xs x) (all_stand (len + more) xs) (stands_more len more xs x a)
    (all_stand_more len more xs b)

-- where a record of a number lies, and that it stands there
pub record Lies {T : Type 0} (len : ℕ) (xs : List (Record T)) (k : ℕ) (x : Record T) : Type 0 where
  pub newer : List (Record T)
  pub older : List (Record T)
  pub whole : xs ≡ newer ++ (x ∷ older)
  pub number : k ≡ length older
  pub there : stands len older x ≡ true

pub lies : {T : Type 0} (len : ℕ) (xs : List (Record T)) (k : ℕ) (x : Record T) → all_stand len xs ≡ true
    → node_among xs k ≡ Some x → Lies len xs k x
unfolding node_among
lies len [] k x h e = none_some x e
lies {T} len (y ∷ ys) k x h e = go (lies len ys k x parts.1) (eqb k (length ys)) refl e
  where
    parts : (stands len ys y ≡ true) × (all_stand len ys ≡ true)
    parts = and_parts (stands len ys y) (all_stand len ys) h

    go : (node_among ys k ≡ Some x → Lies len ys k x)
        → (b : Bool) → eqb k (length ys) ≡ b → cond b (Some y) (node_among ys k) ≡ Some x → Lies len (y ∷ ys) k x
    go rest true i f =
        let same = same_Some _ _ f in
        record {
          newer = [];
          older = ys;
          whole = ap (λ (z : Record T). z ∷ ys) same;
          number = eqb-true k (length ys) i;
          there = subst (λ (z : Record T). stands len ys z ≡ true) same parts.0;
        }
    go rest false i f =
        let l = rest f in
        record {
          newer = y ∷ l.newer;
          older = l.older;
          whole = ap (λ (zs : List (Record T)). y ∷ zs) l.whole;
          number = l.number;
          there = l.there;
        }

-- what is looked up in a store is found among its nodes
pub looked_found : (s : Store) (ks : List ℕ) → looked_up s ks ≡ found_among s.nodes ks
looked_found s [] = refl
looked_found s (k ∷ ks) = ap (with_record k (node_among s.nodes k)) (looked_found s ks)

-- what a granted plan has passed
pub record Built (p : Plan) (s : Store) (x : Node) : Type 0 where
  pub records : List Node
  pub type : DType
  pub there : looked_up s (named p.children p.count) ≡ Ok records
  pub shallow : suc (deepest records) ≤ 256
  pub small : suc (total_size records) ≤ 4096
  pub room : length s.nodes < s.records
  pub text_room : length s.text + length p.adds ≤ s.bytes
  pub is : x ≡ new_record p type records

pub built : (types : List DType → Result DType BindingRefusal) (p : Plan) (s : Store) (x : Node)
    → build_by types p s ≡ Ok x → Built p s x
unfolding build_by
built types p s x e = over (looked_up s (named p.children p.count)) refl e
  where
    typed : (xs : List Node) → looked_up s (named p.children p.count) ≡ Ok xs
        → (t : Result DType BindingRefusal) → sized_as p s xs t ≡ Ok x → Built p s x
    typed xs a (Err r) h = err_ok _ x h
    typed xs a (Ok t) h =
        let (deep, h2) = checked (leb (suc (deepest xs)) 256) _ _ x h in
        let (large, h3) = checked (leb (suc (total_size xs)) 4096) _ _ x h2 in
        let (free, h4) = checked (ltb (length s.nodes) s.records) _ _ x h3 in
        let (long, h5) = checked (leb (length s.text + length p.adds) s.bytes) _ _ x h4 in
        record {
          records = xs;
          type = t;
          there = a;
          shallow = leb-true (suc (deepest xs)) 256 deep;
          small = leb-true (suc (total_size xs)) 4096 large;
          room = ltb-true (length s.nodes) s.records free;
          text_room = leb-true (length s.text + length p.adds) s.bytes long;
          is = sym (ok_same h5);
        }

    over : (r : Result (List Node) ℕ) → looked_up s (named p.children p.count) ≡ r
        → typed_over types p s r ≡ Ok x → Built p s x
    over (Err k) a h = err_ok _ x h
    over (Ok xs) a h = typed xs a (types (types_of xs)) h

-- a record that a plan comes to stands
built_stands : (p : Plan) (s : Store) (x : Node) → Built p s x → min p.count 8 ≤ length p.children
    → (len : ℕ) → ends_within len (text_of p.function) ≡ true → stands len s.nodes x ≡ true
built_stands p s x b enough len ends =
    let n = p.count in
    let cs = p.children in
    let y = new_record p b.type b.records in
    let found : found_among s.nodes (kids y) ≡ Ok b.records =
    ap (found_among s.nodes) (padded_named cs n enough) ∙ sym (looked_found s (named cs n)) ∙ b.there in
    subst (λ (z : Node). stands len s.nodes z ≡ true) (sym b.is)
    (stands_by len s.nodes y (record {
      few = and_from _ _ (le-leb (min n 8) 8 (omega arith)) (eq-eqb _ 8 (padded_eight cs n enough));
      measured =
          ap (measures y) found
          ∙ and_from _ _
          (and_from _ _ (eq-eqb (suc (deepest b.records)) _ refl) (eq-eqb (suc (total_size b.records)) _ refl))
          (and_from _ _ (le-leb (suc (deepest b.records)) 256 b.shallow)
          (le-leb (suc (total_size b.records)) 4096 b.small));
      inside = ends;
    }))

-- there is room for a record and for bytes, and the record stands
pub record FitsIn (h : Held) (x : Node) (more : ℕ) : Type 0 where
  pub room : length h.nodes.items < h.nodes.limit
  pub text_room : length h.text.items + more ≤ h.text.limit
  pub stands_there : stands (length h.text.items + more) (reverse h.nodes.items) x ≡ true

-- what a plan comes to fits
pub build_fits : (types : List DType → Result DType BindingRefusal) (ss : Schemas) (h : Held) (p : Plan) (x : Node)
    → min p.count 8 ≤ length p.children
    → ends_within (length h.text.items + length p.adds) (text_of p.function) ≡ true
    → build_by types p (store ss h) ≡ Ok x → FitsIn h x (length p.adds)
build_fits types ss h p x enough ends e =
    let b = built types p (store ss h) x e in
    record {
      room = omega (arith, b.room, nodes_length ss h);
      text_room = b.text_room;
      stands_there = built_stands p (store ss h) x b enough (length h.text.items + length p.adds) ends;
    }

pub ends_inside : (all : List ℕ) (o : Option Span) → EndsWithin all o → ends_within (length all) o ≡ true
ends_inside all None h = refl
ends_inside all (Some p) h = le-leb (p.start + p.len) (length all) h

-- all records stand after one was added behind them, and bytes behind the text
pub added_stand : (h : Held) (xs : List Node) (len : ℕ) (x : Node) (more : List ℕ)
    → xs ≡ h.nodes.items ++ (x ∷ []) → len ≡ length h.text.items + length more
    → stands (length h.text.items + length more) (reverse h.nodes.items) x ≡ true
    → all_stand len (reverse xs) ≡ true
added_stand h xs len x more nodes longer new =
    let old = h.nodes.items in
    let size = length h.text.items in
    ap (λ (k : ℕ). all_stand k (reverse xs)) longer
    ∙ ap (λ (zs : List Node). all_stand (size + length more) (reverse zs)) nodes
    ∙ ap (all_stand (size + length more)) (reverse-append old (x ∷ []))
    ∙ and_from (stands (size + length more) (reverse old) x) (all_stand (size + length more) (reverse old)) new
    (all_stand_more size (length more) (reverse old) h.sound)

-- and the store has grown by it
pub added_grown : (ss : Schemas) (h : Held) (nodes : Limited Node) (text : Limited ℕ) (x : Node) (more : List ℕ)
    → nodes ≡ record { items = h.nodes.items ++ (x ∷ []); limit = h.nodes.limit }
    → text ≡ record { items = h.text.items ++ more; limit = h.text.limit }
    → ◌≡◌ {A = Store}
    (record {
      schemas = ss;
      nodes = reverse nodes.items;
      text = text.items;
      records = nodes.limit;
      bytes = text.limit;
    })
    (grown x more (store ss h))
added_grown ss h nodes text x more e f =
    same_store ss ss _ _ _ _ _ _ _ _ refl
    (ap (λ (z : Limited Node). reverse z.items) e ∙ reverse-append h.nodes.items (x ∷ []))
    (ap (λ (z : Limited ℕ). z.items) f) (ap (λ (z : Limited Node). z.limit) e) (ap (λ (z : Limited ℕ). z.limit) f)
