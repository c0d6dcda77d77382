-- Where the file of a module stands.
use Rattle.std.specs.Prelude.{ℕ, ◌==◌, if◌then◌else◌, List, ◌∷◌, ◌++◌, map, codes}
use Rattle.std.specs.Str.{chars, encode_utf8_all}

-- the name of a module, with a slash for each dot
abbrev pub with_slashes : List ℕ → List ℕ
with_slashes name = encode_utf8_all (map (λ c. if c == 46 then 47 else c) (chars name))

-- the path of its file under a folder
abbrev pub path_of : List ℕ → List ℕ → List ℕ
path_of folder name = folder ++ (47 ∷ (with_slashes name ++ codes ".qtt"))
