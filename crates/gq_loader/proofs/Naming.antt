-- Which file a failed call was on.
use Rattle.std.proofs.Common.{◌≡◌, ◌⊎◌, inl, inr, ℕ, ◌<◌, ◌++◌, List, length, map, get_or, Some, None, Ok, Err, refl, sym, ap, ◌∙◌, subst}
use Rattle.std.specs.Prelude.{IfSome, slice_get}
use Rattle.std.specs.List.{Contains}
use Rattle.std.specs.declared.option.Option.{Option}
use Rattle.std.specs.declared.result.Result.{Result}
use Rattle.std.proofs.Math.Seq.{map-set_same}
use Rattle.std.proofs.lemmas.List.{get_or-map, length-map}
use Rattle.std.proofs.lemmas.List.Elements.{Contains-append_left, Contains-append_right, Contains-get_or}
use Rattle.std.proofs.lemmas.Option.{IfSome_then, get_or_from_slice_get, slice_get_within}
use Rattle.gq_base.specs.Catalogs.{Tables, with_node_fields, with_rel_fields}
use Rattle.gq_base.specs.declared.catalog.Field.{Field}
use Rattle.gq_base.specs.declared.catalog.NodeTable.{NodeTable}
use Rattle.gq_base.specs.declared.catalog.RelTable.{RelTable}
use Rattle.gq_io.specs.Outside.{Names}
use Rattle.gq_loader.specs.Effects.{IsLineFile, NamesFile, files_of}
use Rattle.gq_loader.specs.Loads.{beginning_of}
use Rattle.gq_loader.specs.steps.Effects.{NamesOnly, NamesTable}
use Rattle.gq_loader.specs.declared.loading.Beginning.{Beginning}
use Rattle.gq_loader.specs.declared.refusal.LoadRefusal.{LoadRefusal}

-- ---- the files of tables

contains_at : {X Y : Type 0} (f : X → Y) (xs : List X) (i : ℕ) (x : X) → slice_get xs i ≡ Some x → Contains (map f xs) (f x)
contains_at f xs i x is =
    let low : i < length xs = slice_get_within xs i x is in
    let here : get_or (map f xs) i (f x) ≡ f x = get_or-map f xs i x (f x) low ∙ ap f (get_or_from_slice_get xs i x x is) in
    subst (Contains (map f xs)) here (Contains-get_or (map f xs) i (f x) (subst (λ n. i < n) (sym (length-map xs f)) low))

pub node_file : (k : Tables) (number : ℕ) (t : NodeTable) → slice_get k.nodes number ≡ Some t → Contains (files_of k) t.file
node_file k number t is =
    Contains-append_left (map (λ (t : NodeTable). t.file) k.nodes) (map (λ (t : RelTable). t.file) k.rels) t.file
    (contains_at (λ (t : NodeTable). t.file) k.nodes number t is)

pub rel_file : (k : Tables) (number : ℕ) (t : RelTable) → slice_get k.rels number ≡ Some t → Contains (files_of k) t.file
rel_file k number t is =
    Contains-append_right (map (λ (t : NodeTable). t.file) k.nodes) (map (λ (t : RelTable). t.file) k.rels) t.file
    (contains_at (λ (t : RelTable). t.file) k.rels number t is)

-- other fields of a table leave its file
node_files : (ts : List NodeTable) (number : ℕ) (fields : List Field) (o : Option NodeTable) → slice_get ts number ≡ o
    → map (λ (t : NodeTable). t.file) (with_node_fields number fields ts) ≡ map (λ (t : NodeTable). t.file) ts
node_files ts number fields None is = rw is refl
node_files ts number fields (Some t) is =
    rw is (map-set_same (λ (t : NodeTable). t.file) ts number (record t { fields = fields }) t (ap (λ (t : NodeTable). t.file) (sym (get_or_from_slice_get ts number t t is))))

rel_files : (ts : List RelTable) (number : ℕ) (fields : List Field) (o : Option RelTable) → slice_get ts number ≡ o
    → map (λ (t : RelTable). t.file) (with_rel_fields number fields ts) ≡ map (λ (t : RelTable). t.file) ts
rel_files ts number fields None is = rw is refl
rel_files ts number fields (Some t) is =
    rw is (map-set_same (λ (t : RelTable). t.file) ts number (record t { fields = fields }) t (ap (λ (t : RelTable). t.file) (sym (get_or_from_slice_get ts number t t is))))

pub nodes_keep : (old new : Tables) (number : ℕ) (fields : List Field) → new ≡ record old { nodes = with_node_fields number fields old.nodes } → files_of new ≡ files_of old
nodes_keep old new number fields is =
    ap files_of is ∙ ap (λ (l : List (List ℕ)). l ++ map (λ (t : RelTable). t.file) old.rels) (node_files old.nodes number fields (slice_get old.nodes number) refl)

pub rels_keep : (old new : Tables) (number : ℕ) (fields : List Field) → new ≡ record old { rels = with_rel_fields number fields old.rels } → files_of new ≡ files_of old
rels_keep old new number fields is =
    ap files_of is ∙ ap (λ (l : List (List ℕ)). map (λ (t : NodeTable). t.file) old.nodes ++ l) (rel_files old.rels number fields (slice_get old.rels number) refl)

-- ---- one part after another

-- what stopped a part stops the whole
pub stops_named : {S T : Type 0} (file : List ℕ) (part : Result S LoadRefusal) (whole : Result T LoadRefusal) (why : LoadRefusal)
    → part ≡ Err why → whole ≡ Err why → NamesOnly file part → NamesOnly file whole
stops_named file part whole why was is named = λ n e. named n (cc (was, is, e))

pub stops_table : {S T : Type 0} (tables : Tables) (part : Result S LoadRefusal) (whole : Result T LoadRefusal) (why : LoadRefusal)
    → part ≡ Err why → whole ≡ Err why → NamesTable tables part → NamesTable tables whole
stops_table tables part whole why was is named = λ n e. named n (cc (was, is, e))

-- the file that a part names is that of a table
pub named_in : {T : Type 0} (tables : Tables) (file : List ℕ) (result : Result T LoadRefusal) → Contains (files_of tables) file → NamesOnly file result → NamesTable tables result
named_in tables file result there named = λ n e. subst (Contains (files_of tables)) (sym (named n e)) there

-- the tables have the files that the manifest names
abbrev pub HaveFiles : Option Names → List ℕ → Tables → Type 0
HaveFiles held manifest tables = IfSome held (λ files.
    (b : Beginning) × (beginning_of manifest files ≡ Ok b) × (files_of tables ≡ files_of b.loading.graph.catalog))

pub files_first : (held : Option Names) (manifest : List ℕ) (b : Beginning) → IfSome held (λ files. beginning_of manifest files ≡ Ok b) → HaveFiles held manifest b.loading.graph.catalog
files_first held manifest b read = IfSome_then held read (λ files is. (b, is, refl))

pub files_next : (held : Option Names) (manifest : List ℕ) (old new : Tables) → files_of new ≡ files_of old → HaveFiles held manifest old → HaveFiles held manifest new
files_next held manifest old new same have = IfSome_then held have (λ files h. (h.0, h.1, same ∙ h.2))

pub manifest_named : {S T : Type 0} (held : Option Names) (manifest : List ℕ) (part : Result S LoadRefusal) (whole : Result T LoadRefusal) (why : LoadRefusal)
    → part ≡ Err why → whole ≡ Err why → NamesOnly manifest part → NamesFile held manifest whole
manifest_named held manifest part whole why was is named = λ n e. inl (stops_named manifest part whole why was is named n e)

pub table_named : {S T : Type 0} (held : Option Names) (manifest : List ℕ) (tables : Tables) (part : Result S LoadRefusal) (whole : Result T LoadRefusal) (why : LoadRefusal)
    → part ≡ Err why → whole ≡ Err why → HaveFiles held manifest tables → NamesTable tables part → NamesFile held manifest whole
table_named held manifest tables part whole why was is have named = λ n e.
    inr (IfSome_then held have (λ files h. (h.0, h.1, subst (λ l. Contains l n) h.2 (stops_table tables part whole why was is named n e))))
