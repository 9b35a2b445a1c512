mod Replies
mod Fronts
