-- What `probe` writes of the premises where each is kept, after the line of the keys.
-- Source: own (text): what the program prints.
use Rattle.std.specs.Prelude.{ℕ, List, ◌++◌, codes}
use Rattle.kmip_report.specs.declared.form.Form.{Form}
use Rattle.kmip_report.specs.declared.form.Form.TheVariants.{Text, Json}

-- In text.
abbrev pub kept_text : List ℕ
kept_text =
    codes "names are unique: yes\n"
    ++ codes "names stay used after Destroy: yes\n"
    ++ codes "a step made twice changes nothing: yes\n"
    ++ codes "an active object is not destroyed: yes\n"
    ++ codes "Locate finds objects by their names: yes\n"
    ++ codes "Locate finds destroyed objects: yes\n"
    ++ codes "Get Attributes tells all six attributes: yes\n"
    ++ codes "the batch id is echoed: yes\n"
    ++ codes "reasons seen: 53, 67\n"
    ++ codes "the promise holds here: each key is made once, and its steps are made once and in order\n"

-- In JSON.
abbrev pub kept_json : List ℕ
kept_json =
    codes "{\"version\":1,\"premise\":\"names are unique\",\"finding\":\"kept\",\"flaw\":null,\"risk\":null}\n"
    ++ codes "{\"version\":1,\"premise\":\"names stay used after Destroy\",\"finding\":\"kept\",\"flaw\":null,\"risk\":null}\n"
    ++ codes "{\"version\":1,\"premise\":\"a step made twice changes nothing\",\"finding\":\"kept\",\"flaw\":null,\"risk\":null}\n"
    ++ codes "{\"version\":1,\"premise\":\"an active object is not destroyed\",\"finding\":\"kept\",\"flaw\":null,\"risk\":null}\n"
    ++ codes "{\"version\":1,\"premise\":\"Locate finds objects by their names\",\"finding\":\"kept\",\"flaw\":null,\"risk\":null}\n"
    ++ codes "{\"version\":1,\"premise\":\"Locate finds destroyed objects\",\"finding\":\"kept\",\"flaw\":null,\"risk\":null}\n"
    ++ codes "{\"version\":1,\"premise\":\"Get Attributes tells all six attributes\",\"finding\":\"kept\",\"flaw\":null,\"risk\":null}\n"
    ++ codes "{\"version\":1,\"premise\":\"the batch id is echoed\",\"finding\":\"kept\",\"flaw\":null,\"risk\":null}\n"
    ++ codes "{\"version\":1,\"reasons\":[53,67],\"sum\":\"the promise holds here: each key is made once, and its steps are made once and in order\"}\n"

-- In a form.
abbrev pub kept_lines : Form → List ℕ
kept_lines Text = kept_text
kept_lines Json = kept_json
