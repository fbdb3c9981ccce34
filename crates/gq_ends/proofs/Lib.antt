mod Adding
mod Answering
mod Asking
mod Missing
mod Spanning
mod Testing
