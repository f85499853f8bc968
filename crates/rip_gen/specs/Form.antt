-- The application of generated work.
use Rattle.std.specs.Prelude.{ℕ, List, ◌++◌, codes}
use Rattle.rip_app.specs.App.{AppOf, Loaded}

-- the page: a form of an order, whose nodes 7 and 8 are text inputs, 9 a select of two options, 14 the button that sends it
abbrev pub form_page : List ℕ
form_page =
    codes "<!DOCTYPE html>\n"
    ++ codes "<html><head><title>Order</title></head><body><form id=\"f\"><input id=\"name\" maxlength=\"20\"><input id=\"count\" value=\"1\"><select id=\"size\"><option>S</option><option>M</option></select><button id=\"go\">Order</button></form><p id=\"total\"></p><script>\n"
    ++ codes "\"use strict\";\n"
    ++ codes "function $(id) { return document.getElementById(id); }\n"
    ++ codes "function total() {\n"
    ++ codes "  var n = parseInt($(\"count\").value, 10);\n"
    ++ codes "  return isNaN(n) ? 0 : n * ($(\"size\").value === \"M\" ? 12 : 10);\n"
    ++ codes "}\n"
    ++ codes "$(\"count\").addEventListener(\"input\", function () { $(\"total\").textContent = \"Total \" + total(); }, false);\n"
    ++ codes "$(\"go\").addEventListener(\"click\", function (e) {\n"
    ++ codes "  e.preventDefault();\n"
    ++ codes "  ripley.call(\"order\", [$(\"name\").value, total()], function (r) { $(\"total\").textContent = \"Order \" + r; });\n"
    ++ codes "}, false);\n"
    ++ codes "</script></body></html>\n"

-- the manifest, with the one function of that page
abbrev pub form_manifest : List ℕ
form_manifest = codes "{\"version\":1,\"functions\":{\"order\":[\"push\",\"orders\"]},\"limits\":{}}"

-- it is that of the page and the manifest
unfoldable pub IsForm : Loaded → Type 0
IsForm app = AppOf form_page form_manifest app
