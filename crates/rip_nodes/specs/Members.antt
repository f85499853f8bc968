-- The members that nodes have, by their names, and the calls among the built-in functions.
use Rattle.std.specs.Prelude.{Option, None, Some}
use Rattle.rip_values.specs.declared.builtin.Builtin.{Builtin}
use Rattle.rip_values.specs.declared.builtin.Builtin.TheVariants.{GetElementById as GetElementByIdFunction, CreateElement as CreateElementFunction, CreateTextNode as CreateTextNodeFunction, HasChildNodes as HasChildNodesFunction, AppendChild as AppendChildFunction, InsertBefore as InsertBeforeFunction, ReplaceChild as ReplaceChildFunction, RemoveChild as RemoveChildFunction, GetAttribute as GetAttributeFunction, HasAttribute as HasAttributeFunction, SetAttribute as SetAttributeFunction, RemoveAttribute as RemoveAttributeFunction}
use Rattle.rip_values.specs.declared.fixed.FixedText.{FixedText}
use Rattle.rip_values.specs.declared.fixed.FixedText.TheVariants.{GetElementById, CreateElement, CreateTextNode, Body, DocumentElement, NodeType, NodeName, TagName, NodeValue, ParentNode, FirstChild, LastChild, NextSibling, PreviousSibling, HasChildNodes, AppendChild, InsertBefore, ReplaceChild, RemoveChild, TextContent, GetAttribute, HasAttribute, SetAttribute, RemoveAttribute, Id, ClassName, AddEventListener, RemoveEventListener}
use Rattle.rip_nodes.specs.declared.member.NodeMember.{NodeMember}
use Rattle.rip_nodes.specs.declared.member.NodeMember.TheVariants as member
use Rattle.rip_nodes.specs.declared.member.NodeCall.{NodeCall}
use Rattle.rip_nodes.specs.declared.member.NodeCall.TheVariants as call

-- the member of nodes that has this name
abbrev pub member_of : FixedText → Option NodeMember
member_of GetElementById = Some member.GetElementById
member_of CreateElement = Some member.CreateElement
member_of CreateTextNode = Some member.CreateTextNode
member_of Body = Some member.Body
member_of DocumentElement = Some member.DocumentElement
member_of NodeType = Some member.NodeType
member_of NodeName = Some member.NodeName
member_of TagName = Some member.TagName
member_of NodeValue = Some member.NodeValue
member_of ParentNode = Some member.ParentNode
member_of FirstChild = Some member.FirstChild
member_of LastChild = Some member.LastChild
member_of NextSibling = Some member.NextSibling
member_of PreviousSibling = Some member.PreviousSibling
member_of HasChildNodes = Some member.HasChildNodes
member_of AppendChild = Some member.AppendChild
member_of InsertBefore = Some member.InsertBefore
member_of ReplaceChild = Some member.ReplaceChild
member_of RemoveChild = Some member.RemoveChild
member_of TextContent = Some member.TextContent
member_of GetAttribute = Some member.GetAttribute
member_of HasAttribute = Some member.HasAttribute
member_of SetAttribute = Some member.SetAttribute
member_of RemoveAttribute = Some member.RemoveAttribute
member_of Id = Some member.Id
member_of ClassName = Some member.ClassName
member_of AddEventListener = Some member.AddEventListener
member_of RemoveEventListener = Some member.RemoveEventListener
member_of _ = None

-- the call of nodes that this built-in function is
abbrev pub call_of : Builtin → Option NodeCall
call_of GetElementByIdFunction = Some call.GetElementById
call_of CreateElementFunction = Some call.CreateElement
call_of CreateTextNodeFunction = Some call.CreateTextNode
call_of HasChildNodesFunction = Some call.HasChildNodes
call_of AppendChildFunction = Some call.AppendChild
call_of InsertBeforeFunction = Some call.InsertBefore
call_of ReplaceChildFunction = Some call.ReplaceChild
call_of RemoveChildFunction = Some call.RemoveChild
call_of GetAttributeFunction = Some call.GetAttribute
call_of HasAttributeFunction = Some call.HasAttribute
call_of SetAttributeFunction = Some call.SetAttribute
call_of RemoveAttributeFunction = Some call.RemoveAttribute
call_of _ = None
